-- Free. Calls that make states known, one after the other.
--     can_add, can_more, can_again     what they need
--     kept_state                       the state of a node that may be expanded
--     none_added, more_added           what they promise if no node is added, and after another
--                                      call
--     added_ok, added_on               if another result is returned, and if an error is handed on
--     deeper_extends                   the nodes are one step deeper than the one that they come
--                                      from
--     stopped_expands                  a node isn't expanded if a call is refused
use Rattle.std.proofs.Common.{◌≡◌, ℕ, ◌+◌, ◌≤◌, Bool, List, length, sym, subst, arith}
use Rattle.std.specs.Prelude.{Some, slice_get, Option, Result as Returned, Ok, Err, IfErr, IsErrAnd}
use Rattle.asm_state.specs.declared.value.Value.{Value}
use Rattle.asm_state.specs.code.Contents.{IsStateOf}
use Rattle.asm_state.specs.Location.{State}
use Rattle.asm_state.specs.Signature.{Shape}
use Rattle.asm_meaning.specs.Run.{Specification}
use Rattle.asm_explore.specs.declared.outcomes.outcomes_error.RuleOverLimit.{RuleOverLimit}
use Rattle.asm_explore.specs.declared.search_error.SearchError.{SearchError}
use Rattle.asm_explore.specs.declared.search_result.BadStep.{BadStep}
use Rattle.asm_explore.specs.code.AddedNodes.{CanAdd, CanExpand, AddsNodes, ExpandsNode}
use Rattle.asm_explore.specs.ListElements.{Each}
use Rattle.asm_explore.specs.code.PackedNodes.{Node}
use Rattle.asm_explore.specs.code.ReachedStates.{AreBegun, Extends, IsFull, IsGood}
use Rattle.asm_explore.specs.code.SearchEnds.{HaltsSo}
use Rattle.asm_explore.proofs.SearchEnds.{full_on, halts_weaker}
use Rattle.asm_explore.proofs.StateLemmas.MoreNodes.{at_less, begun_both, begun_none, each_got, extends_both, extends_none, good_more, long_more, shallow_more, some_at}

module _ (shape : Shape) (right : State → Bool) (from limit : ℕ) (state : List Value) (nodes : List Node) (can : CanExpand shape right from limit state nodes) where
  pub kept_state : IsStateOf shape state
  kept_state =
      let n = some_at nodes from can.from in
      subst (IsStateOf shape) (can.here n.0 n.1) (each_got (IsGood shape right) nodes from n.0 can.nodes n.1).kept

  -- the node is as deep as this
  pub can_add : (d : ℕ) → ((n : Node) → slice_get nodes from ≡ Some n → d ≡ n.depth) → CanAdd shape right from (d + 1) limit nodes
  can_add d deep =
      let n = some_at nodes from can.from in
      record {
        from = can.from;
        room = can.room;
        nodes = can.nodes;
        near = subst (λ d. Each (λ (m : Node). m.depth ≤ d + 1) nodes) (sym (deep n.0 n.1)) (can.near n.0 n.1);
      }

module _ (shape : Shape) (specification : Specification) (turns : ℕ) (right : State → Bool) (from limit : ℕ) where
  module _ (below : ℕ) (old new : List Node) (extends : Extends shape specification turns right below old new) (room : length new ≤ limit) where
    pub can_more : CanAdd shape right from below limit old → CanAdd shape right from below limit new
    can_more can = record {
      from = omega (arith, can.from, long_more shape specification turns right below old new extends);
      room = room;
      nodes = good_more shape specification turns right below old new extends can.nodes;
      near = shallow_more shape specification turns right below old new extends can.near;
    }

  pub can_again : (d : ℕ) (state : List Value) (old new : List Node) → Extends shape specification turns right (d + 1) old new → length new ≤ limit → ((n : Node) → slice_get old from ≡ Some n → d ≡ n.depth)
      → CanExpand shape right from limit state old → CanExpand shape right from limit state new
  can_again d state old new extends room deep can =
      let was : (n : Node) → slice_get new from ≡ Some n → slice_get old from ≡ Some n = λ n there. at_less shape specification turns right (d + 1) old new extends from n can.from there in
      let more = can_more (d + 1) old new extends room (can_add shape right from limit state old can d deep) in
      record {
        from = more.from;
        shallow = λ n there. can.shallow n (was n there);
        here = λ n there. can.here n (was n there);
        room = room;
        nodes = more.nodes;
        near = λ n there. subst (λ d. Each (λ (m : Node). m.depth ≤ d + 1) new) (deep n (was n there)) more.near;
      }

  module _ {T : Type 0} (below : ℕ) where
    pub none_added : (old : List Node) (x : T) → length old ≤ limit → AddsNodes shape specification turns right from below limit old old (Ok x)
    none_added old x room =
        record { extends = extends_none shape specification turns right below old; begun = begun_none from old; room = room; full = tt }

    pub more_added : (old mid new : List Node) (r : Returned T SearchError) → Extends shape specification turns right below old mid → AreBegun from old mid
        → AddsNodes shape specification turns right from below limit mid new r → AddsNodes shape specification turns right from below limit old new r
    more_added old mid new r extends begun adds = record {
      extends = extends_both shape specification turns right below old mid new extends adds.extends;
      begun = begun_both shape specification turns right below from old mid new adds.extends begun adds.begun;
      room = adds.room;
      full = adds.full;
    }

    module _ {S : Type 0} (old new : List Node) (r : Returned S SearchError) (adds : AddsNodes shape specification turns right from below limit old new r) where
      pub added_ok : (x : T) → AddsNodes shape specification turns right from below limit old new (Ok x)
      added_ok x = record { extends = adds.extends; begun = adds.begun; room = adds.room; full = tt }

      pub added_on : (returned : Returned T SearchError) (e : SearchError) → r ≡ Err e → IsErrAnd returned (λ again. again ≡ e) → AddsNodes shape specification turns right from below limit old new returned
      added_on returned e was same = record {
        extends = adds.extends;
        begun = adds.begun;
        room = adds.room;
        full = full_on (HaltsSo (IsFull shape specification turns right limit from new) (λ (_ : RuleOverLimit). ⊥)) r returned e was same adds.full;
      }

  module _ (d : ℕ) (old new : List Node) (deep : (n : Node) → slice_get old from ≡ Some n → d ≡ n.depth) where
    pub deeper_extends : Extends shape specification turns right (d + 1) old new → (n : Node) → slice_get old from ≡ Some n → Extends shape specification turns right (n.depth + 1) old new
    deeper_extends extends n there = subst (λ d. Extends shape specification turns right (d + 1) old new) (deep n there) extends

    pub stopped_expands : {S : Type 0} (rests : State → Bool) (crowds : RuleOverLimit → Type 0) (r : Returned S SearchError) → AddsNodes shape specification turns right from (d + 1) limit old new r
        → (returned : Returned (Option BadStep) SearchError) (e : SearchError) → r ≡ Err e → IsErrAnd returned (λ again. again ≡ e)
        → ExpandsNode shape specification turns right rests crowds from limit old new returned
    stopped_expands rests crowds r adds (Ok x) e was same = absurd same
    stopped_expands rests crowds r adds (Err again) e was same = record {
      extends = deeper_extends adds.extends;
      begun = adds.begun;
      room = adds.room;
      expanded = tt;
      wrong = tt;
      apart = tt;
      full =
          halts_weaker (IsFull shape specification turns right limit from new) (IsFull shape specification turns right limit from new) (λ (_ : RuleOverLimit). ⊥) crowds again (λ x. x) (λ _ no. absurd no)
          (subst (HaltsSo (IsFull shape specification turns right limit from new) (λ (_ : RuleOverLimit). ⊥)) (sym same) (subst (λ r. IfErr r (HaltsSo (IsFull shape specification turns right limit from new) (λ (_ : RuleOverLimit). ⊥))) was adds.full));
    }
