-- Bridge to the code. Conditions on states of a resolved specification, and what has to hold of one
-- that is explored.
--     holds_in shape c A           the condition is true in a state, or there is none
--     IsCondition checked t c      the code is that of the condition
--     IsSpecified m                the codes are sound, and that of the main rule is resolved
use Rattle.std.specs.Prelude.{◌≡◌, Bool, [], Option, option_map}
use Rattle.asm_state.specs.Location.{State}
use Rattle.asm_state.specs.Signature.{Shape}
use Rattle.asm_syntax.specs.code.Views.{spec_of, test_of}
use Rattle.asm_syntax.specs.declared.term.Term.{Term}
use Rattle.asm_check.specs.Faults.{inits}
use Rattle.asm_check.specs.Shapes.{shape_of}
use Rattle.asm_check.specs.declared.checked.Checked.{Checked}
use Rattle.asm_meaning.specs.Declarations.{main_rule}
use Rattle.asm_code.specs.code.CodeViews.{code_of}
use Rattle.asm_code.specs.code.RuleMeaning.{IsSoundTest, passes}
use Rattle.asm_code.specs.code.RuleViews.{rule_of}
use Rattle.asm_code.specs.declared.code.Code.{Code}
use Rattle.asm_resolve.specs.code.RuleScopes.{resolved_rule_in}
use Rattle.asm_explore.specs.declared.resolved_question.ResolvedQuestion.{ResolvedQuestion}
use Rattle.asm_explore.specs.Conditions.{condition_holds}

-- a condition of the code, as a term
abbrev pub term_holds : Checked → Option Term → State → Bool
term_holds checked t A = condition_holds (spec_of checked.spec) (test_of t) A

abbrev pub holds_in : Shape → Option Code → State → Bool
holds_in shape c A = passes shape (option_map code_of c) [] A

pub record IsCondition (checked : Checked) (t : Option Term) (c : Option Code) : Type 0 where
  pub sound : IsSoundTest (shape_of (spec_of checked.spec)) (option_map code_of c)
  pub means : (A : State) → holds_in (shape_of (spec_of checked.spec)) c A ≡ term_holds checked t A

pub record IsSpecified (m : ResolvedQuestion) : Type 0 where
  pub main : let s = spec_of m.checked.now.spec in resolved_rule_in s [] (main_rule s (inits s)) (rule_of m.code.now)
  pub always : IsSoundTest (shape_of (spec_of m.checked.now.spec)) (option_map code_of m.always.now)
  pub within : IsSoundTest (shape_of (spec_of m.checked.now.spec)) (option_map code_of m.within.now)
  pub when_quiet : IsSoundTest (shape_of (spec_of m.checked.now.spec)) (option_map code_of m.when_quiet.now)
