-- Definition. The graph of the states that the runs of a specification come to.
--     Pairs P xs ys        two lists have one length, and it holds of each element with the one at
--                          its place in the other
--     state_at             the state of a node
--     StandsAt nodes i B   the node with this number has the state
--     IsKind f fault       the fault of a set is of this kind
--     HasFault f r         what a step yields has a fault of this kind
--     GoesTo nodes A r t   what a step yields in a state leads to this target
--     along cs             who takes the choices of an edge: a script with a line for each of them,
--                          and no other, in step 1
--     IsEdge e             the choices of the edge are those that the step along it makes, in their
--                          order; whatever takes them, the step leads to its target
--     AreEdges es          each is such an edge, and whatever is chosen, the step leads to the
--                          target of one of them
--     IsShown n step       what is shown of the step from a node
--     IsNode n             a run of at most as many steps as the node is deep comes to its state,
--                          and its marks are right
--     AreApart xs          no two of these are the same
--     LeadsTo i step       one of the edges of a step leads to the node with this number
--     ComesFrom i n        an edge leads to the node with this number, from one that is one step
--                          less deep
--     AreFound nodes       each but the first does
--     DepthsRise nodes     no node is less deep than one before it
--     IsCrowded A          the state is that of a node whose step has too many outcomes to be shown
--     ComesTo script k A   the run of `k` steps under the script comes to the state
--     PassesCrowd          before its last step a run passes a crowded state
--     IsLeast n            no run of fewer steps than the node is deep comes to its state, unless
--                          it passes a crowded one
--     IsComplete steps     each state that a run of at most `steps` steps comes to is that of a
--                          node, unless it passes a crowded one
--     IsGraph graph        what is said of a graph
--     AreTooMany           more states than are shown at most, each of which a run comes to
--     IsRefusal e          why there is no graph
--     LeadBack i step      each edge leads back to the node with this number
--     QuietLaw             a node whose edges lead back to it has a quiet state
use Rattle.std.specs.Prelude.{◌≡◌, ◌≢◌, ◌≤◌, ◌<◌, ◌+◌, ◌⊎◌, ℕ, suc, Bool, true, false, List, [], ◌∷◌, length, map, slice_get, Some, ⊤}
use Rattle.asm_state.specs.Location.{State}
use Rattle.asm_state.specs.Signature.{Shape, count_of, state_of}
use Rattle.asm_state.specs.Updates.{Fault, Clash, Outside, IsFirstFault}
use Rattle.asm_reader.specs.ExactLines.{exactly}
use Rattle.asm_reader.specs.ScriptLines.{Script}
use Rattle.asm_meaning.specs.Run.{AtLimit, Specification, run}
use Rattle.asm_meaning.specs.Yields.{Result, Gives, Exhausted}
use Rattle.asm_explore.specs.declared.outcomes.listed_outcome.Choice.{Choice}
use Rattle.asm_explore.specs.declared.outcomes.outcomes_error.RuleOverLimit.{RuleOverLimit}
use Rattle.asm_explore.specs.ChoiceLines.{lines_for}
use Rattle.asm_explore.specs.ExplorationResults.{IsReachedBy}
use Rattle.asm_explore.specs.ListElements.{Each, AnyOf}
use Rattle.asm_explore.specs.RunChoices.{chosen_from}
use Rattle.asm_explore.specs.TakenChoices.{Situation, AreTaken, HaveOwnPaths, steps_from}
use Rattle.asm_explore.specs.Search.{LeadsOn, IsQuiet, StaysWithin}
use Rattle.asm_graph.specs.declared.graph.Edge.{Edge}
use Rattle.asm_graph.specs.declared.graph.Graph.{Graph}
use Rattle.asm_graph.specs.declared.graph.Node.{Node}
use Rattle.asm_graph.specs.declared.graph.Step.{Step}
use Rattle.asm_graph.specs.declared.graph.Step.TheVariants as step
use Rattle.asm_graph.specs.declared.graph.StepFault.{StepFault}
use Rattle.asm_graph.specs.declared.graph.StepFault.TheVariants as kind
use Rattle.asm_graph.specs.declared.graph.EdgeEnd.{EdgeEnd}
use Rattle.asm_graph.specs.declared.graph.EdgeEnd.TheVariants as target
use Rattle.asm_graph.specs.declared.graph_error.GraphError.{GraphError}
use Rattle.asm_graph.specs.declared.graph_error.GraphError.TheVariants.{Memory, TooMany}

abbrev pub Pairs : {X Y : Type 0} → (X → Y → Type 0) → List X → List Y → Type 0
Pairs P [] [] = Unit {0}
Pairs P [] (y ∷ ys) = ⊥
Pairs P (x ∷ xs) [] = ⊥
Pairs P (x ∷ xs) (y ∷ ys) = P x y × Pairs P xs ys

abbrev pub AreApart : {X : Type 0} → List X → Type 0
AreApart [] = Unit {0}
AreApart (x ∷ xs) = Each (λ y. x ≢ y) xs × AreApart xs

-- ---- faults

abbrev pub IsKind : StepFault → Fault → Type 0
IsKind kind.Clash (Clash l r) = Unit {0}
IsKind kind.Clash (Outside f) = ⊥
IsKind kind.Outside (Clash l r) = ⊥
IsKind kind.Outside (Outside f) = Unit {0}
IsKind kind.Exhausted fault = ⊥

abbrev pub HasFault : StepFault → Result → Type 0
HasFault f (Gives U) = (first : Fault) × IsFirstFault U first × IsKind f first
HasFault f (Exhausted q) = f ≡ kind.Exhausted

-- ---- edges

abbrev pub along : List Choice → Situation
along cs = record { script = exactly (lines_for 1 cs); step = 1 }

module _ (shape : Shape) where
  abbrev pub state_at : Node → State
  state_at n = state_of shape n.state

  abbrev pub StandsAt : List Node → ℕ → State → Type 0
  StandsAt nodes i B = (n : Node) × (slice_get nodes i ≡ Some n) × (state_at n ≡ B)

  abbrev pub GoesTo : List Node → State → Result → EdgeEnd → Type 0
  GoesTo nodes A r (target.Node i) = LeadsOn r A (StandsAt nodes i)
  GoesTo nodes A r (target.Fault f) = HasFault f r

  module _ (specification : Specification) (turns : ℕ) (nodes : List Node) (A : State) where
    pub record IsEdge (e : Edge) : Type 0 where
      pub apart : HaveOwnPaths e.choices.items
      pub own : e.choices.items ≡ chosen_from specification turns A (along e.choices.items)
      pub goes : (s : Situation) → AreTaken s e.choices.items → GoesTo nodes A (steps_from specification turns A s) e.to

    pub record AreEdges (es : List Edge) : Type 0 where
      pub each : Each IsEdge es
      pub all : (s : Situation) → AnyOf (λ (e : Edge). GoesTo nodes A (steps_from specification turns A s) e.to) es

-- ---- graphs

-- some edge leads to the node with this number
abbrev pub LeadsTo : ℕ → Step → Type 0
LeadsTo i step.Cut = ⊥
LeadsTo i step.Crowded = ⊥
LeadsTo i (step.Edges es) = AnyOf (λ (e : Edge). e.to ≡ target.Node i) es.items

pub record ComesFrom (nodes : List Node) (steps : List Step) (i : ℕ) (n : Node) : Type 0 where
  pub number : ℕ
  pub earlier : Node
  pub there : slice_get nodes number ≡ Some earlier
  pub onward : Step
  pub shown : slice_get steps number ≡ Some onward
  pub leads : LeadsTo i onward
  pub deeper : n.depth ≡ earlier.depth + 1

abbrev pub AreFound : List Node → List Step → Type 0
AreFound nodes steps = (i : ℕ) (n : Node) → 0 < i → slice_get nodes i ≡ Some n → ComesFrom nodes steps i n

-- depths don't fall from a node to the next
abbrev pub DepthsRise : List Node → Type 0
DepthsRise nodes = (i j : ℕ) (m n : Node) → i ≤ j → slice_get nodes i ≡ Some m → slice_get nodes j ≡ Some n → m.depth ≤ n.depth

abbrev pub IsCrowded : Shape → List Node → List Step → State → Type 0
IsCrowded shape nodes steps A = (i : ℕ) × StandsAt shape nodes i A × (slice_get steps i ≡ Some step.Crowded)

module _ (shape : Shape) (specification : Specification) (turns : ℕ) (within : State → Bool) where
  -- runs are looked at of at most `steps` steps
  abbrev pub IsShown : (crowds : State → RuleOverLimit → Type 0) → (steps : ℕ) → List Node → Node → Step → Type 0
  IsShown crowds steps nodes n step.Cut = (steps ≤ n.depth) ⊎ (within (state_at shape n) ≡ false)
  IsShown crowds steps nodes n step.Crowded = (n.depth < steps) × (within (state_at shape n) ≡ true) × ((crowd : RuleOverLimit) × crowds (state_at shape n) crowd)
  IsShown crowds steps nodes n (step.Edges es) =
      (n.depth < steps) × (within (state_at shape n) ≡ true) × AreEdges shape specification turns nodes (state_at shape n) es.items

  pub record IsNode (right rests : State → Bool) (n : Node) : Type 0 where
    pub reached : IsReachedBy specification turns within n.depth (state_at shape n)
    pub is_right : n.right ≡ right (state_at shape n)
    pub is_rest : n.rests ≡ rests (state_at shape n)

  -- the run of `k` steps, by way of states that runs are followed from
  pub record ComesTo (script : Script) (k : ℕ) (A : State) : Type 0 where
    pub stays : StaysWithin specification turns within script k
    pub end : (run specification turns script k).end ≡ AtLimit
    pub last : (run specification turns script k).last ≡ A

  module _ (nodes : List Node) (made : List Step) where
    -- What the step from a crowded state leads to isn't shown. So a run that passes one may come to
    -- a state that the graph doesn't show, or shows by a longer way.
    abbrev pub PassesCrowd : Script → (k : ℕ) → Type 0
    PassesCrowd script k = (j : ℕ) × (j < k) × IsCrowded shape nodes made (run specification turns script j).last

    abbrev pub IsLeast : Node → Type 0
    IsLeast n = (script : Script) (k : ℕ) → k < n.depth → ComesTo script k (state_at shape n) → PassesCrowd script k

    abbrev pub IsComplete : (steps : ℕ) → Type 0
    IsComplete steps = (script : Script) (k : ℕ) (A : State) → k ≤ steps → ComesTo script k A → ((i : ℕ) × StandsAt shape nodes i A) ⊎ PassesCrowd script k

  -- at most `most` states are shown
  pub record IsGraph (crowds : State → RuleOverLimit → Type 0) (steps most : ℕ) (right rests : State → Bool) (graph : Graph) : Type 0 where
    pub begins : StandsAt shape graph.nodes.items 0 specification.initial
    pub at_first : (n : Node) → slice_get graph.nodes.items 0 ≡ Some n → n.depth ≡ 0
    pub each : Each (IsNode right rests) graph.nodes.items
    pub onward : Pairs (IsShown crowds steps graph.nodes.items) graph.nodes.items graph.steps.items
    pub found : AreFound graph.nodes.items graph.steps.items
    pub complete : IsComplete graph.nodes.items graph.steps.items steps
    pub least : Each (IsLeast graph.nodes.items graph.steps.items) graph.nodes.items
    pub apart : AreApart (map (state_at shape) graph.nodes.items)
    pub rise : DepthsRise graph.nodes.items
    pub few : length graph.nodes.items ≤ most
    -- what its text asks for
    pub whole : Each (λ (n : Node). length n.state ≡ count_of shape) graph.nodes.items
    pub paired : length graph.steps.items ≡ length graph.nodes.items

module _ (specification : Specification) (turns : ℕ) (within : State → Bool) where
  -- runs of at most `steps` steps come to more than `most` states
  pub record AreTooMany (steps most : ℕ) : Type 0 where
    pub states : List State
    pub count : length states ≡ suc most
    pub apart : AreApart states
    pub each : Each (IsReachedBy specification turns within steps) states

  abbrev pub IsRefusal : (steps most : ℕ) → GraphError → Type 0
  IsRefusal steps most Memory = ⊤
  IsRefusal steps most TooMany = AreTooMany steps most

-- ---- quiet states

abbrev pub LeadBack : ℕ → Step → Type 0
LeadBack i step.Cut = ⊥
LeadBack i step.Crowded = ⊥
LeadBack i (step.Edges es) = Each (λ (e : Edge). e.to ≡ target.Node i) es.items

abbrev pub QuietLaw : Type 0
QuietLaw =
    (shape : Shape) (specification : Specification) (turns : ℕ) (nodes : List Node) (i : ℕ) (n : Node) (es : List Edge) → slice_get nodes i ≡ Some n
    → AreEdges shape specification turns nodes (state_at shape n) es → Each (λ (e : Edge). e.to ≡ target.Node i) es → IsQuiet specification turns (state_at shape n)
