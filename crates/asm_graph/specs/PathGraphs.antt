-- Definition. The graph of the states of one run, with the edges that it takes and no others.
--     IsPathNode A n           the node has this state, and its marks are right
--     GoesAlong                where the edge from a node leads, and what comes after it
--     IsPathEdge               such an edge alone
--     IsPathFrom left i A      from the state after `i` steps on, of a run that makes at most `left`
--                              more: a node for each state, with one edge, which has the choices
--                              that the step makes. It leads to the next node, whose state is
--                              another one; or to the fault of the step; or back, if the step
--                              changes nothing, and no step after that is shown
--     IsPathGraph limit graph     so it is from the first state on
use Rattle.std.specs.Prelude.{◌≡◌, ◌≢◌, ◌⊎◌, ℕ, zero, suc, Bool, List, [], ◌∷◌, length}
use Rattle.asm_state.specs.Location.{State}
use Rattle.asm_state.specs.Signature.{Shape, count_of}
use Rattle.asm_reader.specs.ScriptLines.{Script}
use Rattle.asm_meaning.specs.Run.{Specification}
use Rattle.asm_meaning.specs.Yields.{Result}
use Rattle.asm_explore.specs.ListElements.{Each}
use Rattle.asm_explore.specs.RunChoices.{chosen_from}
use Rattle.asm_explore.specs.Search.{LeadsOn}
use Rattle.asm_explore.specs.TakenChoices.{Situation, steps_from}
use Rattle.asm_graph.specs.Graphs.{HasFault, state_at}
use Rattle.asm_graph.specs.declared.graph.Edge.{Edge}
use Rattle.asm_graph.specs.declared.graph.EdgeEnd.{EdgeEnd}
use Rattle.asm_graph.specs.declared.graph.EdgeEnd.TheVariants as target
use Rattle.asm_graph.specs.declared.graph.Graph.{Graph}
use Rattle.asm_graph.specs.declared.graph.Node.{Node}
use Rattle.asm_graph.specs.declared.graph.Step.{Step}
use Rattle.asm_graph.specs.declared.graph.Step.TheVariants as step

abbrev pub AreNone : List Node → List Step → Type 0
AreNone nodes steps = (nodes ≡ []) × (steps ≡ [])

-- these edges are shown of a step
abbrev pub IsEdgesOf : List Edge → Step → Type 0
IsEdgesOf es step.Cut = ⊥
IsEdgesOf es step.Crowded = ⊥
IsEdgesOf es (step.Edges shown) = shown.items ≡ es

-- where the edge from node i leads, of a step that yields this in A, and what comes after it
abbrev pub GoesAlong : (i : ℕ) → State → Result → EdgeEnd → (After : State → List Node → List Step → Type 0) → List Node → List Step → Type 0
GoesAlong i A r (target.Fault f) After nodes steps = HasFault f r × AreNone nodes steps
GoesAlong i A r (target.Node j) After nodes steps = LeadsOn r A (λ B. ((j ≡ i) × (B ≡ A) × AreNone nodes steps) ⊎ ((j ≡ suc i) × (B ≢ A) × After B nodes steps))

-- the step that begins in the state after `i` steps
abbrev pub step_behind : Script → (i : ℕ) → Situation
step_behind script i = record { script = script; step = suc i }

module _ (shape : Shape) (right rests : State → Bool) where
  pub record IsPathNode (A : State) (n : Node) : Type 0 where
    pub state : state_at shape n ≡ A
    pub is_right : n.right ≡ right A
    pub is_rest : n.rests ≡ rests A

  module _ (specification : Specification) (turns : ℕ) (script : Script) where
    pub record IsPathEdge (i : ℕ) (A : State) (After : State → List Node → List Step → Type 0) (step : Step) (nodes : List Node) (steps : List Step) : Type 0 where
      pub edge : Edge
      pub alone : IsEdgesOf (edge ∷ []) step
      pub choices : edge.choices.items ≡ chosen_from specification turns A (step_behind script i)
      pub goes : GoesAlong i A (steps_from specification turns A (step_behind script i)) edge.to After nodes steps

    abbrev pub IsPathFrom : (left i : ℕ) → State → List Node → List Step → Type 0
    IsPathFrom left i A [] steps = ⊥
    IsPathFrom left i A (n ∷ nodes) [] = ⊥
    IsPathFrom zero i A (n ∷ nodes) (s ∷ steps) = IsPathNode A n × (s ≡ step.Cut) × AreNone nodes steps
    IsPathFrom (suc left) i A (n ∷ nodes) (s ∷ steps) = IsPathNode A n × IsPathEdge i A (IsPathFrom left (suc i)) s nodes steps

    pub record IsPathGraph (limit : ℕ) (graph : Graph) : Type 0 where
      pub path : IsPathFrom limit 0 specification.initial graph.nodes.items graph.steps.items
      -- what its text asks for
      pub whole : Each (λ (n : Node). length n.state ≡ count_of shape) graph.nodes.items
      pub paired : length graph.steps.items ≡ length graph.nodes.items
