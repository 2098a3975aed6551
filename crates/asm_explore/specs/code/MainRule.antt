-- Bridge to the code. The main rule of a checked specification, if its step has too many outcomes.
--     IsMainOverLimit checked turns limit A crowd
--                        it makes more lists of choices than the limit says, as many as both
--                        numbers come to, in the step from a state
use Rattle.std.specs.Prelude.{ℕ}
use Rattle.asm_state.specs.Location.{State}
use Rattle.asm_syntax.specs.code.Views.{spec_of}
use Rattle.asm_check.specs.declared.checked.Checked.{Checked}
use Rattle.asm_meaning.specs.Declarations.{specification_of}
use Rattle.asm_explore.specs.declared.outcomes.outcomes_error.RuleOverLimit.{RuleOverLimit}
use Rattle.asm_explore.specs.TooManyOutcomes.{IsCrowded}

abbrev pub IsMainOverLimit : Checked → (turns limit : ℕ) → State → RuleOverLimit → Type 0
IsMainOverLimit checked turns limit A crowd = IsCrowded (specification_of (spec_of checked.spec)) turns limit A crowd
