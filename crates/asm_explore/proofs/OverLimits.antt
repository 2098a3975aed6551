-- Free. What the code of the main rule has too many of the main rule has too many of.
use Rattle.std.proofs.Common.{ℕ, [], subst}
use Rattle.asm_state.specs.Location.{State}
use Rattle.asm_syntax.specs.code.Views.{spec_of}
use Rattle.asm_check.specs.Faults.{inits}
use Rattle.asm_check.specs.Shapes.{shape_of}
use Rattle.asm_check.specs.declared.checked.Checked.{Checked}
use Rattle.asm_meaning.specs.Declarations.{main_rule}
use Rattle.asm_code.specs.code.RuleTree.{RuleCode}
use Rattle.asm_resolve.specs.code.RuleScopes.{resolved_rule_in}
use Rattle.asm_resolve.proofs.ResolvingLaws.{resolving_laws}
use Rattle.asm_explore.specs.declared.outcomes.outcomes_error.RuleOverLimit.{RuleOverLimit}
use Rattle.asm_explore.specs.code.ChoicesMade.{made_in}
use Rattle.asm_explore.specs.code.MainRule.{IsMainOverLimit}
use Rattle.asm_explore.specs.code.StepOutcomes.{IsOverLimitOf}
use Rattle.asm_explore.proofs.ChoiceLemmas.MainStories.{made_of_main}

pub over_limit : (checked : Checked) (turns limit : ℕ) (P : RuleCode) → (let s = spec_of checked.spec in resolved_rule_in s [] (main_rule s (inits s)) P) → (A : State) (crowd : RuleOverLimit)
    → IsOverLimitOf (made_in (shape_of (spec_of checked.spec)) turns P) limit A crowd → IsMainOverLimit checked turns limit A crowd
over_limit checked turns limit P resolved A crowd so =
    subst (λ makes. IsOverLimitOf makes limit A crowd) (made_of_main resolving_laws (spec_of checked.spec) turns P resolved) so
