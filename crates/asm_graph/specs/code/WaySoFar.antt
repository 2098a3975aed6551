-- Bridge to the code. The graph of a run, while its states are added.
--     EndsAt i A r to             where the step from A yields this, the edge from node i leads to
--                                 its fault, or back to the node, as the step changes nothing
--     IsEndOf i A r to next       so it does; or this state is behind it, which is another one
--     HasNodeMore A step old new  a graph has one node more, for this state, with this step
--     IsWayMore i A old new next  and the step is that of a run: what comes after it goes on from
--                                 this state, or nothing does
use Rattle.std.specs.Prelude.{◌≡◌, ◌≢◌, ℕ, suc, Bool, List, [], ◌∷◌, ◌++◌, length, Option, Some, None}
use Rattle.asm_state.specs.Location.{State}
use Rattle.asm_state.specs.Signature.{Shape, count_of, state_of}
use Rattle.asm_state.specs.code.Contents.{IsStateOf}
use Rattle.asm_state.specs.declared.value.Value.{Value}
use Rattle.asm_reader.specs.ScriptLines.{Script}
use Rattle.asm_meaning.specs.Run.{Specification}
use Rattle.asm_meaning.specs.Yields.{Result}
use Rattle.asm_explore.specs.Search.{LeadsOn}
use Rattle.asm_graph.specs.Graphs.{HasFault}
use Rattle.asm_graph.specs.PathGraphs.{IsPathFrom, IsPathNode}
use Rattle.asm_graph.specs.declared.graph.EdgeEnd.{EdgeEnd}
use Rattle.asm_graph.specs.declared.graph.EdgeEnd.TheVariants as target
use Rattle.asm_graph.specs.declared.graph.Graph.{Graph}
use Rattle.asm_graph.specs.declared.graph.Node.{Node}
use Rattle.asm_graph.specs.declared.graph.Step.{Step}

abbrev pub EndsAt : (i : ℕ) → State → Result → EdgeEnd → Type 0
EndsAt i A r (target.Fault f) = HasFault f r
EndsAt i A r (target.Node j) = (j ≡ i) × LeadsOn r A (λ B. B ≡ A)

abbrev pub IsEndOf : Shape → (i : ℕ) → State → Result → EdgeEnd → (next : Option (List Value)) → Type 0
IsEndOf shape i A r to None = EndsAt i A r to
IsEndOf shape i A r to (Some next) = IsStateOf shape next × (to ≡ target.Node (suc i)) × LeadsOn r A (λ B. B ≡ state_of shape next) × (state_of shape next ≢ A)

module _ (shape : Shape) (right rests : State → Bool) where
  pub record HasNodeMore (A : State) (step : Step) (old new : Graph) : Type 0 where
    pub node : Node
    pub is_node : IsPathNode shape right rests A node
    pub whole : length node.state ≡ count_of shape
    pub nodes : new.nodes.items ≡ old.nodes.items ++ node ∷ []
    pub steps : new.steps.items ≡ old.steps.items ++ step ∷ []

  module _ (specification : Specification) (turns : ℕ) (script : Script) where
    -- from the state after `i` steps on
    abbrev pub GoesOn : (i : ℕ) → State → Node → Step → (next : Option (List Value)) → Type 0
    GoesOn i A node step None = (left : ℕ) → IsPathFrom shape right rests specification turns script (suc left) i A (node ∷ []) (step ∷ [])
    GoesOn i A node step (Some next) =
        IsStateOf shape next
        × ((left : ℕ) (nodes : List Node) (steps : List Step) → IsPathFrom shape right rests specification turns script left (suc i) (state_of shape next) nodes steps
        → IsPathFrom shape right rests specification turns script (suc left) i A (node ∷ nodes) (step ∷ steps))

    pub record IsWayMore (i : ℕ) (A : State) (old new : Graph) (next : Option (List Value)) : Type 0 where
      pub step : Step
      pub more : HasNodeMore A step old new
      pub goes : GoesOn i A more.node step next
