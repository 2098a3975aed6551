-- Law. The edges of a graph that a run takes are those of the run, as far as they go.
--     GoesOnTo A r t After rest     what a step yields in a state leads to this target. Behind a node
--                                   this holds of what is left of the edges, and behind a fault
--                                   nothing is left
--     IsTaken i A s After first rest    the first edge leads from the node with this number, has the
--                                   choices that the step makes, and leads where the step does
--     IsMissed A s step             no edge is shown of the step; or the choices of none are taken,
--                                   though one of them leads where the step does
--     IsWayFrom left number i A path    these are the edges, from the state of a node on, of at most
--                                   `left` steps that count from `number`. If there are fewer, the
--                                   last leads to a fault, or to a node from which none is taken
--     WayLaw                        the edges that a run takes are such
use Rattle.std.specs.Prelude.{◌≡◌, ℕ, zero, suc, Bool, List, [], ◌∷◌, Some, slice_get}
use Rattle.asm_state.specs.Location.{State}
use Rattle.asm_state.specs.Signature.{Shape}
use Rattle.asm_reader.specs.ScriptLines.{Script}
use Rattle.asm_meaning.specs.Run.{Specification}
use Rattle.asm_meaning.specs.Yields.{Result}
use Rattle.asm_explore.specs.ListElements.{Each, AnyOf}
use Rattle.asm_explore.specs.RunChoices.{chosen_from}
use Rattle.asm_explore.specs.Search.{LeadsOn}
use Rattle.asm_explore.specs.TakenChoices.{AreTaken, Situation, steps_from}
use Rattle.asm_explore.specs.TooManyOutcomes.{IsCrowded}
use Rattle.asm_graph.specs.declared.graph.Edge.{Edge}
use Rattle.asm_graph.specs.declared.graph.EdgeEnd.{EdgeEnd}
use Rattle.asm_graph.specs.declared.graph.EdgeEnd.TheVariants as target
use Rattle.asm_graph.specs.declared.graph.Graph.{Graph}
use Rattle.asm_graph.specs.declared.graph.Node.{Node}
use Rattle.asm_graph.specs.declared.graph.Step.{Step}
use Rattle.asm_graph.specs.declared.graph.Step.TheVariants as step
use Rattle.asm_graph.specs.Graphs.{GoesTo, HasFault, IsGraph, StandsAt}
use Rattle.asm_graph.specs.Paths.{edges_at, run_edges}

module _ (shape : Shape) (specification : Specification) (turns : ℕ) (nodes : List Node) (steps : List Step) (script : Script) where
  abbrev pub GoesOnTo : State → Result → EdgeEnd → (After : (i : ℕ) → State → List (ℕ × ℕ) → Type 0) → List (ℕ × ℕ) → Type 0
  GoesOnTo A r (target.Node j) After rest = LeadsOn r A (λ B. StandsAt shape nodes j B × After j B rest)
  GoesOnTo A r (target.Fault f) After rest = HasFault f r × (rest ≡ [])

  pub record IsTaken (i : ℕ) (A : State) (s : Situation) (After : (i : ℕ) → State → List (ℕ × ℕ) → Type 0) (first : ℕ × ℕ) (rest : List (ℕ × ℕ)) : Type 0 where
    pub from : first.0 ≡ i
    pub edge : Edge
    pub there : slice_get (edges_at steps i) first.1 ≡ Some edge
    pub choices : edge.choices.items ≡ chosen_from specification turns A s
    pub goes : GoesOnTo A (steps_from specification turns A s) edge.to After rest

  abbrev pub IsMissed : State → Situation → Step → Type 0
  IsMissed A s step.Cut = Unit {0}
  IsMissed A s step.Crowded = Unit {0}
  IsMissed A s (step.Edges es) = Each (λ (e : Edge). ¬ (AreTaken s e.choices.items)) es.items × AnyOf (λ (e : Edge). GoesTo shape nodes A (steps_from specification turns A s) e.to) es.items

  abbrev pub IsWayFrom : (left number i : ℕ) → State → List (ℕ × ℕ) → Type 0
  IsWayFrom zero number i A path = path ≡ []
  IsWayFrom (suc left) number i A [] = (onward : Step) × (slice_get steps i ≡ Some onward) × IsMissed A (record { script = script; step = number }) onward
  IsWayFrom (suc left) number i A (first ∷ rest) = IsTaken i A (record { script = script; step = number }) (IsWayFrom left (suc number)) first rest

abbrev pub WayLaw : Type 0
WayLaw =
    (shape : Shape) (specification : Specification) (turns : ℕ) (within right rests : State → Bool) (outcomes steps most : ℕ) (graph : Graph)
    → IsGraph shape specification turns within (IsCrowded specification turns outcomes) steps most right rests graph
    → (script : Script) (limit : ℕ) → IsWayFrom shape specification turns graph.nodes.items graph.steps.items script limit 1 0 specification.initial (run_edges graph.steps.items script limit)
