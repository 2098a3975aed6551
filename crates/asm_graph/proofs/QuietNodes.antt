-- Free. Nodes whose edges lead back to them.
--     quiet_law      their states are quiet
use Rattle.std.proofs.Common.{◌≡◌, ℕ, List, [], ◌∷◌, inl, inr, sym, ap, subst, ◌∙◌}
use Rattle.std.specs.Prelude.{slice_get, Some}
use Rattle.asm_state.specs.Location.{State}
use Rattle.asm_state.specs.Signature.{Shape}
use Rattle.asm_state.specs.Updates.{fire}
use Rattle.asm_meaning.specs.Run.{Specification}
use Rattle.asm_meaning.specs.Yields.{Result}
use Rattle.asm_explore.specs.code.OutcomeLists.{Situation, Each, AnyOf}
use Rattle.asm_explore.specs.code.ReachedStates.{steps_from}
use Rattle.asm_explore.specs.Search.{LeadsOn, IsQuiet}
use Rattle.asm_graph.specs.declared.graph.Edge.{Edge}
use Rattle.asm_graph.specs.declared.graph.Node.{Node}
use Rattle.asm_graph.specs.declared.graph.EdgeEnd.{EdgeEnd}
use Rattle.asm_graph.specs.declared.graph.EdgeEnd.TheVariants as target
use Rattle.asm_graph.specs.Graphs.{AreEdges, GoesTo, QuietLaw, StandsAt, state_at}

-- what holds of the target of some edge holds of the one that all have
of_target : (P : EdgeEnd → Type 0) (t : EdgeEnd) (es : List Edge) → Each (λ (e : Edge). e.to ≡ t) es → AnyOf (λ (e : Edge). P e.to) es → P t
of_target P t [] same some = absurd some
of_target P t (e ∷ es) same (inl here) = subst P same.0 here
of_target P t (e ∷ es) same (inr some) = of_target P t es same.1 some

module _ (shape : Shape) (specification : Specification) (turns : ℕ) (nodes : List Node) (i : ℕ) (n : Node) (there : slice_get nodes i ≡ Some n) where
  stands_there : (B : State) → StandsAt shape nodes i B → B ≡ state_at shape n
  stands_there B h = let same : h.0 ≡ n = cc in sym h.2 ∙ ap (state_at shape) same

  goes_back : (r : Result) → GoesTo shape nodes (state_at shape n) r (target.Node i) → LeadsOn r (state_at shape n) (λ B. B ≡ state_at shape n)
  goes_back r h = record { set = h.set; gives = h.gives; consistent = h.consistent; leads = stands_there (fire (state_at shape n) h.set) h.leads }

  is_back : (es : List Edge) → AreEdges shape specification turns nodes (state_at shape n) es → Each (λ (e : Edge). e.to ≡ target.Node i) es → IsQuiet specification turns (state_at shape n)
  is_back es edges back = λ script number.
      let s : Situation = record { script = script; step = number } in
      let r = steps_from specification turns (state_at shape n) s in
      goes_back r (of_target (GoesTo shape nodes (state_at shape n) r) (target.Node i) es back (edges.all s))

pub quiet_law : QuietLaw
quiet_law shape specification turns nodes i n es there edges back = is_back shape specification turns nodes i n there es edges back
