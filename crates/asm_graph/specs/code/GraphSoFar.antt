-- Bridge to the code. A graph, while its states are reached.
--     hash_in xs                 the hash of these contents
--     HasContents nodes k xs     the node with this number has these contents
--     Leads A one next           an outcome of the step from a state leads to the state with these
--                                contents
--     FailsSo one f              it has a fault of this kind
--     IsOutcome A one            it is one of the step from the state
--     IsNear nodes d end         the node that an edge leads to is there, at most so deep
--     IsFollowed A d one e       an edge has the choices that the step along the outcome makes, and
--                                leads where it does
--     AreNear nodes n step       each edge leads to a node at most one step deeper than its own
--     IsLed depth A              choices of `depth` steps lead to the state
--     IsNodeRight n              they lead to the state of a node, whose marks are right
--     AreNodesRight nodes        so it is of each; their states differ, their depths rise, and
--                                there are not too many
--     NodesGrow d old new        nodes with more after them, all of this depth
--     AreNew old new P           of the numbers of those this holds
use Rattle.std.specs.Prelude.{◌≡◌, ◌≤◌, ◌<◌, ℕ, ◌+◌, ◌*◌, ◌%◌, ◌^◌, Bool, List, ◌++◌, bit_xor, fold, length, map, slice_get, Some, ⊤}
use Rattle.std.specs.Int.{rotate_left, w64}
use Rattle.asm_state.specs.code.Codes.{code_of}
use Rattle.asm_state.specs.code.Contents.{IsStateOf}
use Rattle.asm_state.specs.Location.{State}
use Rattle.asm_state.specs.Signature.{Shape, count_of, state_of}
use Rattle.asm_state.specs.declared.value.Value.{Value}
use Rattle.asm_meaning.specs.Run.{Specification}
use Rattle.asm_meaning.specs.Yields.{Result}
use Rattle.asm_explore.specs.declared.outcomes.listed_outcome.Choice.{Choice}
use Rattle.asm_explore.specs.declared.outcomes.listed_outcome.ListedOutcome.{ListedOutcome}
use Rattle.asm_explore.specs.code.OutcomeLists.{Each, IsCounted, IsSound, Shows}
use Rattle.asm_explore.specs.code.ChoicePaths.{HaveOwnPaths}
use Rattle.asm_explore.specs.code.ReachedStates.{LeadTo, steps_from}
use Rattle.asm_explore.specs.RunChoices.{chosen_from}
use Rattle.asm_explore.specs.Search.{LeadsOn}
use Rattle.asm_graph.specs.declared.graph.Edge.{Edge}
use Rattle.asm_graph.specs.declared.graph.EdgeEnd.{EdgeEnd}
use Rattle.asm_graph.specs.declared.graph.EdgeEnd.TheVariants as target
use Rattle.asm_graph.specs.declared.graph.Node.{Node}
use Rattle.asm_graph.specs.declared.graph.Step.{Step}
use Rattle.asm_graph.specs.declared.graph.Step.TheVariants as step
use Rattle.asm_graph.specs.declared.graph.StepFault.{StepFault}
use Rattle.asm_graph.specs.Graphs.{AreApart, DepthsRise, GoesTo, HasFault, along, state_at}

-- ---- contents

-- a hash with one more code
unfoldable pub with_code : ℕ → ℕ → ℕ
with_code hash code = (bit_xor (rotate_left w64 hash 5) code * 0x517C_C1B7_2722_0A95) % 2 ^ 64

abbrev pub with_content : ℕ → Value → ℕ
with_content hash v = with_code hash (code_of v)

abbrev pub hash_in : List Value → ℕ
hash_in xs = fold with_content 0x9E37_79B9_7F4A_7C15 xs

abbrev pub HasContents : List Node → ℕ → List Value → Type 0
HasContents nodes k xs = (n : Node) × (slice_get nodes k ≡ Some n) × (n.state ≡ xs)

-- ---- edges

abbrev pub IsNear : List Node → (depth : ℕ) → EdgeEnd → Type 0
IsNear nodes depth (target.Node i) = (n : Node) × (slice_get nodes i ≡ Some n) × (n.depth ≤ depth)
IsNear nodes depth (target.Fault f) = ⊤

abbrev pub AreNear : List Node → Node → Step → Type 0
AreNear nodes n step.Cut = ⊤
AreNear nodes n step.Crowded = ⊤
AreNear nodes n (step.Edges es) = Each (λ (e : Edge). IsNear nodes (n.depth + 1) e.to) es.items

module _ (shape : Shape) where
  pub record Leads (A : State) (one : ListedOutcome) (next : List Value) : Type 0 where
    pub kept : (r : Result) → Shows shape one.answer r → IsStateOf shape next
    pub leads : (r : Result) → Shows shape one.answer r → LeadsOn r A (λ B. B ≡ state_of shape next)

  abbrev pub FailsSo : ListedOutcome → StepFault → Type 0
  FailsSo one f = (r : Result) → Shows shape one.answer r → HasFault f r

  pub record IsFollowed (specification : Specification) (turns : ℕ) (nodes : List Node) (A : State) (depth : ℕ) (one : ListedOutcome) (e : Edge) : Type 0 where
    pub choices : e.choices.items ≡ chosen_from specification turns A (along one.choices)
    pub goes : (r : Result) → Shows shape one.answer r → GoesTo shape nodes A r e.to
    pub near : IsNear nodes depth e.to

  pub record IsOutcome (specification : Specification) (turns : ℕ) (A : State) (one : ListedOutcome) : Type 0 where
    pub counted : IsCounted (count_of shape) one.answer
    pub sound : IsSound shape (steps_from specification turns A) one
    pub apart : HaveOwnPaths one.choices

-- ---- nodes

abbrev pub IsLed : Specification → (turns : ℕ) → (within : State → Bool) → (depth : ℕ) → State → Type 0
IsLed specification turns within depth A = (back : List (List Choice)) × (length back ≡ depth) × LeadTo specification turns within A back

abbrev pub AreNew : (old new : List Node) → (ℕ → Type 0) → Type 0
AreNew old new P = (i : ℕ) → length old ≤ i → i < length new → P i

abbrev pub AreShallow : (depth : ℕ) → List Node → Type 0
AreShallow depth nodes = Each (λ (n : Node). n.depth ≤ depth) nodes

module _ (shape : Shape) (specification : Specification) (turns : ℕ) (within right rests : State → Bool) where
  pub record IsNodeRight (n : Node) : Type 0 where
    pub kept : IsStateOf shape n.state
    pub led : IsLed specification turns within n.depth (state_at shape n)
    pub is_right : n.right ≡ right (state_at shape n)
    pub is_rest : n.rests ≡ rests (state_at shape n)
    pub hashed : n.hash ≡ hash_in n.state

  -- at most `steps` steps lead to each of at most `most`
  pub record AreNodesRight (steps most : ℕ) (nodes : List Node) : Type 0 where
    pub each : Each IsNodeRight nodes
    pub apart : AreApart (map (state_at shape) nodes)
    pub rise : DepthsRise nodes
    pub shallow : AreShallow steps nodes
    pub few : length nodes ≤ most

  pub record NodesGrow (steps most depth : ℕ) (old new : List Node) : Type 0 where
    pub more : List Node
    pub is : new ≡ old ++ more
    pub deep : Each (λ (n : Node). n.depth ≡ depth) more
    pub kept : AreNodesRight steps most new
