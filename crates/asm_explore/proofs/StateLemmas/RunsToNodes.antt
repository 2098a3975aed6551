-- Free. Runs that come to the states of nodes.
--     lead_to          choices lead to the state of each node, in as many steps as it is deep
--     node_reached, nodes_reached    a run comes to the state of a node, and to those of all nodes
--     more_reached     and to the one that is one more
--     reached_more     a run of fewer steps
use Rattle.std.proofs.Common.{◌≡◌, ℕ, zero, suc, ◌≤◌, Bool, List, [], ◌∷◌, length, map, refl, sym, ap, ◌∙◌, arith}
use Rattle.std.specs.Prelude.{slice_get, Some}
use Rattle.asm_state.specs.Location.{State}
use Rattle.asm_state.specs.Signature.{Shape}
use Rattle.asm_reader.specs.ExactLines.{exactly}
use Rattle.asm_meaning.specs.Run.{Specification}
use Rattle.asm_explore.specs.declared.outcomes.listed_outcome.Choice.{Choice}
use Rattle.asm_explore.specs.ExplorationResults.{IsReachedBy}
use Rattle.asm_explore.specs.code.PackedNodes.{Node}
use Rattle.asm_explore.specs.code.OutcomeLists.{Each}
use Rattle.asm_explore.specs.code.ReachedStates.{AreInside, IsLinked, IsOverfull, LeadTo, state_at}
use Rattle.asm_explore.specs.ChoiceLines.{lines_of}
use Rattle.asm_explore.proofs.StateLemmas.RunsAlongChoices.{trail_run}
use Rattle.asm_explore.proofs.ScriptLemmas.ScriptToState.{lines_make}
use Rattle.asm_explore.proofs.OutcomeLemmas.LeadingOutcomes.{comes, is_first, leads_apart}

each_mapped_of : {X Y : Type 0} (P : Y → Type 0) (f : X → Y) (xs : List X) → ((k : ℕ) (x : X) → slice_get xs k ≡ Some x → P (f x)) → Each P (map f xs)
each_mapped_of P f [] all = tt
each_mapped_of P f (x ∷ xs) all = (all 0 x refl, each_mapped_of P f xs (λ k y there. all (suc k) y there))

-- a run of fewer steps
pub reached_more : (specification : Specification) (turns : ℕ) (within : State → Bool) (d e : ℕ) (A : State) → d ≤ e → IsReachedBy specification turns within d A → IsReachedBy specification turns within e A
reached_more specification turns within d e A more at = (at.0, at.1, omega (arith, at.2, more), at.3, at.4, at.5)

module _ (shape : Shape) (specification : Specification) (turns : ℕ) (within : State → Bool) (nodes : List Node)
    (linked : Each (IsLinked shape specification turns nodes) nodes) (inside : AreInside shape specification turns within nodes) where
  lead_to : (d i : ℕ) (n : Node) → slice_get nodes i ≡ Some n → n.depth ≡ d → (back : List (List Choice)) × (length back ≡ d) × LeadTo specification turns within (state_at shape n) back
  lead_to zero i n there deep = ([], refl, is_first shape specification turns nodes linked i n there deep)
  lead_to (suc d) i n there deep =
      let from = comes shape specification turns nodes linked i n there (omega (arith, deep)) in
      let e = from.earlier in
      let before = lead_to d n.from e from.there (omega (arith, deep, from.deeper)) in
      (from.leads.0 ∷ before.0, ap suc before.1, (state_at shape e, before.2, inside i n e there (omega (arith, deep)) from.there, from.leads.1))

  reached_along : (depth : ℕ) (A : State) (back : List (List Choice)) → length back ≤ depth → LeadTo specification turns within A back → IsReachedBy specification turns within depth A
  reached_along depth A back shallow leads =
      let script = exactly (lines_of back) in
      let runs = trail_run specification turns within script back A leads (lines_make back (leads_apart specification turns within back A leads)) in
      (script, length back, shallow, runs.2, runs.0, runs.1)

  pub node_reached : (depth i : ℕ) (n : Node) → slice_get nodes i ≡ Some n → n.depth ≤ depth → IsReachedBy specification turns within depth (state_at shape n)
  node_reached depth i n there shallow =
      let leads = lead_to n.depth i n there refl in
      reached_along depth (state_at shape n) leads.0 (omega (arith, shallow, leads.1)) leads.2

  -- one more node, which comes from one whose state is within
  pub more_reached : (right : State → Bool) (limit whole : ℕ) (over : IsOverfull shape specification turns right within limit whole nodes) → IsReachedBy specification turns within (suc whole) (state_at shape over.full.more)
  more_reached right limit whole over =
      let more = over.full.more in
      let from = over.full.linked in
      let e = from.earlier in
      let there : slice_get nodes over.from ≡ Some e = ap (slice_get nodes) (sym over.full.begun) ∙ from.there in
      let leads = lead_to e.depth over.from e there refl in
      let low = over.shallow e there in
      reached_along (suc whole) (state_at shape more) (from.leads.0 ∷ leads.0) (omega (arith, low.0, leads.1))
      (state_at shape e, leads.2, low.1, from.leads.1)

  pub nodes_reached : (depth : ℕ) → ((i : ℕ) (n : Node) → slice_get nodes i ≡ Some n → n.depth ≤ depth) → Each (IsReachedBy specification turns within depth) (map (state_at shape) nodes)
  nodes_reached depth shallow = each_mapped_of (IsReachedBy specification turns within depth) (state_at shape) nodes (λ i n there. node_reached depth i n there (shallow i n there))
