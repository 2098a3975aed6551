-- Bridge to the code. Which of the states that a search has reached it has looked at.
--     LooksThrough    it has looked at the first ones, if runs are followed from them, and so many
--                     of these are quiet. Each state that runs are followed from is one of them, if
--                     fewer than `whole` steps lead to it; if the search is closed, in any case
use Rattle.std.specs.Prelude.{◌≡◌, ℕ, Bool, true, List, map, take}
use Rattle.asm_state.specs.Location.{State}
use Rattle.asm_state.specs.Signature.{Shape}
use Rattle.asm_meaning.specs.Run.{Specification}
use Rattle.asm_explore.specs.code.PackedNodes.{Node}
use Rattle.asm_explore.specs.code.ReachedStates.{state_at}
use Rattle.asm_explore.specs.Search.{HoldsAlways, HoldsBefore, IsQuiet}
use Rattle.asm_explore.specs.StateLists.{Counts, IsAmongFirst}

pub record LooksThrough (shape : Shape) (specification : Specification) (turns : ℕ) (within : State → Bool) (whole : ℕ) (closed : Type 0) (nodes : List Node) (number : ℕ) : Type 0 where
  pub looked : ℕ
  pub quiet : Counts (λ A. (within A ≡ true) × IsQuiet specification turns A) (take looked (map (state_at shape) nodes)) number
  pub before : HoldsBefore specification turns within (IsAmongFirst looked (map (state_at shape) nodes)) whole
  pub always : closed → HoldsAlways specification turns within (IsAmongFirst looked (map (state_at shape) nodes))
