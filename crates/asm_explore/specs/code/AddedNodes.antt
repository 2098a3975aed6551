-- Bridge to the code. What calls need and promise that make states known.
--     CanAdd         nodes of one depth may be added, which come from the one with a number
--     AddsNodes      they are
--     CanExpand      the one with a number may be expanded
--     ExpandsNode    they are one step deeper than that node, and what its step leads to is known;
--                    or it is told what is wrong with the step
--     ListsQuiet     the number of a node is listed if its state is quiet
use Rattle.std.specs.Prelude.{◌≡◌, ◌+◌, ◌<◌, ◌≤◌, ℕ, Bool, List, length, Option, Some, IfSome, IfNone, Result, IfOk, IfErr, slice_get}
use Rattle.asm_state.specs.declared.value.Value.{Value}
use Rattle.asm_state.specs.Location.{State}
use Rattle.asm_state.specs.Signature.{Shape}
use Rattle.asm_meaning.specs.Run.{Specification}
use Rattle.asm_explore.specs.declared.outcomes.outcomes_error.RuleOverLimit.{RuleOverLimit}
use Rattle.asm_explore.specs.declared.search_error.SearchError.{SearchError}
use Rattle.asm_explore.specs.declared.search_result.BadStep.{BadStep}
use Rattle.asm_explore.specs.code.ChoicePaths.{HaveOwnPaths}
use Rattle.asm_explore.specs.ListElements.{Each}
use Rattle.asm_explore.specs.code.PackedNodes.{Node}
use Rattle.asm_explore.specs.code.QuietStates.{RestsSo}
use Rattle.asm_explore.specs.code.ReachedStates.{AreBegun, Expanded, Extends, IsBadStep, IsFull, IsGood, IsNear}
use Rattle.asm_explore.specs.code.SearchEnds.{HaltsSo}

module _ (shape : Shape) (right : State → Bool) where
  pub record CanAdd (number below limit : ℕ) (old : List Node) : Type 0 where
    pub from : number < length old
    pub room : length old ≤ limit
    pub nodes : Each (IsGood shape right) old
    pub near : Each (λ n. n.depth ≤ below) old

  -- its state has these contents
  pub record CanExpand (number limit : ℕ) (state : List Value) (old : List Node) : Type 0 where
    pub from : number < length old
    pub shallow : (n : Node) → slice_get old number ≡ Some n → n.depth < 4_294_967_295
    pub here : (n : Node) → slice_get old number ≡ Some n → n.state ≡ state
    pub room : length old ≤ limit
    pub nodes : Each (IsGood shape right) old
    pub near : IsNear old number

module _ (shape : Shape) (specification : Specification) (turns : ℕ) (right : State → Bool) where
  pub record AddsNodes {T : Type 0} (from below limit : ℕ) (old new : List Node) (result : Result T SearchError) : Type 0 where
    pub extends : Extends shape specification turns right below old new
    pub begun : AreBegun from old new
    pub room : length new ≤ limit
    pub full : IfErr result (HaltsSo (IsFull shape specification turns right limit from new) (λ _. ⊥))

  -- a step with too many outcomes is refused so
  pub record ExpandsNode (rests : State → Bool) (crowds : RuleOverLimit → Type 0) (from limit : ℕ) (old new : List Node) (result : Result (Option BadStep) SearchError) : Type 0 where
    pub extends : (n : Node) → slice_get old from ≡ Some n → Extends shape specification turns right (n.depth + 1) old new
    pub begun : AreBegun from old new
    pub room : length new ≤ limit
    pub expanded : IfOk result (λ bad. IfNone bad ((n : Node) → slice_get old from ≡ Some n → Expanded shape specification turns new n))
    pub wrong : IfOk result (λ bad. IfSome bad (λ b. (b.from ≡ from) × IsBadStep shape specification turns right rests old from b.choices.items b.fault))
    pub apart : IfOk result (λ bad. IfSome bad (λ b. HaveOwnPaths b.choices.items))
    pub full : IfErr result (HaltsSo (IsFull shape specification turns right limit from new) crowds)

-- of a node whose state is A; nothing is listed if something is wrong
pub record ListsQuiet (specification : Specification) (turns : ℕ) (may_rest : State → Bool) (A : State) (number : ℕ) (old new : List ℕ) (result : Result (Option BadStep) SearchError) : Type 0 where
  pub rests : IfOk result (λ bad. IfNone bad (RestsSo specification turns may_rest A number old new))
  pub listed : IfOk result (λ bad. IfSome bad (λ _. new ≡ old))
  pub unlisted : IfErr result (λ _. new ≡ old)
