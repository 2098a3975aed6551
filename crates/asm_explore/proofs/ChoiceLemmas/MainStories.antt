-- Free. The code of the main rule asks what the main rule asks, and makes the choices that it makes.
--     asked_of_main      what is asked in the step from a state
--     made_of_main       the choices
use Rattle.std.proofs.Common.{◌≡◌, ℕ, []}
use Rattle.asm_syntax.specs.SourceTree.{Spec}
use Rattle.asm_check.specs.Shapes.{shape_of}
use Rattle.asm_meaning.specs.Declarations.{specification_of}
use Rattle.asm_code.specs.code.RuleTree.{RuleCode}
use Rattle.asm_resolve.specs.code.ResolvingLaws.{ResolvingLaws}
use Rattle.asm_resolve.specs.code.RuleScopes.{resolved_rule_in}
use Rattle.asm_explore.specs.ChoicePoints.{asked, choices_of}
use Rattle.asm_explore.specs.RunChoices.{asked_from, chosen_from}
use Rattle.asm_explore.specs.code.AskedRules.{asks_in}
use Rattle.asm_explore.specs.code.ChoicesMade.{made_in}

module _ (laws : ResolvingLaws) (spec : Spec) (turns : ℕ) (main : RuleCode) (resolved : resolved_rule_in spec [] (specification_of spec).main main) where
  pub asked_of_main : asks_in (shape_of spec) turns main ≡ asked_from (specification_of spec) turns
  asked_of_main = λ i A s. asked (laws.tells spec (specification_of spec).main main turns s.script s.step A [] resolved i)

  pub made_of_main : made_in (shape_of spec) turns main ≡ chosen_from (specification_of spec) turns
  made_of_main = λ i A s. choices_of (asked_of_main i A s)
