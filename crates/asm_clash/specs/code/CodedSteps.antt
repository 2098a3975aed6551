-- Bridge to the code. What stands of a step, by the code of the main rule.
--     coded_at     the assignments whose updates stand at a location in the story of a rule's code
--                  in a state, from the top on
use Rattle.std.specs.Prelude.{ℕ, List, []}
use Rattle.asm_state.specs.Location.{Location, State}
use Rattle.asm_state.specs.Signature.{Shape}
use Rattle.asm_meaning.specs.Yields.{Path}
use Rattle.asm_code.specs.code.RuleStories.{telling}
use Rattle.asm_code.specs.code.RuleTree.{RuleCode}
use Rattle.asm_clash.specs.Standing.{Assigned, stands}

module _ (shape : Shape) (turns : ℕ) (chosen : Path → ℕ) (R : RuleCode) (A : State) where
  abbrev pub coded_at : Location → List Assigned
  coded_at l = stands l (telling shape turns chosen R [] [] [] A [])
