-- Bridge to the code. States that a search has reached.
--     AtNode            it holds of the state of a node, and of what a refusal names
--     Known nodes d A   some node of depth d or less has the state A
--     Expanded          whatever a step yields from a node's state leads on to a state that is
--                       known one step deeper
--     FollowsStep       outcomes of a step lead on to states that are known
--     GoesWrong         how a step goes wrong, or begins in a deadlock
--     ComesFrom         a node that a step leads to from an earlier one
--     IsLinked          each node is the first one, or comes from an earlier one
--     Rises, IsNear     nodes are in the order of their depths, none much deeper than one of them
--     AreBegun          nodes that were added come from one
--     AreInside         a step to a node began in a state that is within
--     Extends           nodes with more after them, which have right states, are linked, and have
--                       one depth
--     IsFull            there are as many nodes as the limit says, and the step from one of them
--                       leads to a state that none has
--     IsOverfull        so it is, after at most so many steps
--     IsBadStep         a step that goes wrong
--     IsLooked          what stays true while nodes are expanded
--     IsStopped         what a search that has ended has looked at, and why it has
--     LeadTo            the choices of the steps that lead from the first state to another, those
--                       of the last step first
--     MakesAll          a script makes them, each in its step
--     GoesWrongSo       each script that makes those that lead to a bad step, and its own, has a
--                       run that goes wrong
use Rattle.std.specs.Prelude.{◌≡◌, ℕ, suc, ◌+◌, ◌≤◌, ◌<◌, Bool, true, false, List, [], ◌∷◌, ◌++◌, ◌⊎◌, length, take, Some, slice_get}
use Rattle.asm_state.specs.code.Contents.{IsStateOf}
use Rattle.asm_state.specs.Location.{State}
use Rattle.asm_state.specs.Signature.{Shape, state_of}
use Rattle.asm_state.specs.Updates.{UpdateSet, IsConsistent}
use Rattle.asm_reader.specs.ScriptLines.{Script}
use Rattle.asm_meaning.specs.Run.{Specification}
pub use Rattle.asm_explore.specs.TakenChoices.{steps_from}
use Rattle.asm_meaning.specs.Yields.{Path, Result, Gives, Exhausted}
use Rattle.asm_explore.specs.declared.search_result.BadStep.{BadStep}
use Rattle.asm_explore.specs.declared.search_result.SearchEnd.TheVariants as ended
use Rattle.asm_explore.specs.declared.search_result.SearchSoFar.{SearchSoFar}
use Rattle.asm_explore.specs.code.SearchEnds.{IfBad, IfOverLimit, IsDone}
use Rattle.asm_explore.specs.declared.fault.Fault.{Fault}
use Rattle.asm_explore.specs.declared.fault.Fault.TheVariants as fault
use Rattle.asm_explore.specs.declared.outcomes.listed_outcome.Choice.{Choice}
use Rattle.asm_explore.specs.declared.outcomes.listed_outcome.ListedOutcome.{ListedOutcome}
use Rattle.asm_explore.specs.declared.outcomes.outcomes_error.RuleOverLimit.{RuleOverLimit}
use Rattle.asm_explore.specs.code.IndexedNodes.{IsNew}
use Rattle.asm_explore.specs.code.PackedNodes.{Node}
use Rattle.asm_explore.specs.code.OutcomeLists.{Situation, Each, AnyOf, AreTaken, Shown, IsSound}
use Rattle.asm_explore.specs.code.ChoicePaths.{HaveOwnPaths}
use Rattle.asm_explore.specs.Search.{LeadsOn, IsDeadlock, GoesWrongIn, StaysWithin}

-- nodes that were added come from one
abbrev pub AreBegun : (from : ℕ) → (old new : List Node) → Type 0
AreBegun from old new = (j : ℕ) (k : Node) → length old ≤ j → slice_get new j ≡ Some k → k.from ≡ from

-- nodes are in the order of their depths
abbrev pub Rises : List Node → Type 0
Rises nodes = (i j : ℕ) (m n : Node) → i ≤ j → slice_get nodes i ≡ Some m → slice_get nodes j ≡ Some n → m.depth ≤ n.depth

-- none is more than one step deeper than the one with this number
abbrev pub IsNear : List Node → ℕ → Type 0
IsNear nodes i = (n : Node) → slice_get nodes i ≡ Some n → Each (λ m. m.depth ≤ n.depth + 1) nodes

-- how a step goes wrong
abbrev pub GoesWrong : (right : State → Bool) → (dead : State → Type 0) → Fault → Result → State → Type 0
GoesWrong right dead fault.Exhausted r A = (q : Path) × (r ≡ Exhausted q)
GoesWrong right dead fault.Inconsistent r A = (U : UpdateSet) × (r ≡ Gives U) × ¬ (IsConsistent U)
GoesWrong right dead fault.Wrong r A = LeadsOn r A (λ B. right B ≡ false)
GoesWrong right dead fault.Deadlock r A = dead A

-- choices with which the step from a state leads to another, each at a path of its own
pub record LeadBetween (specification : Specification) (turns : ℕ) (A B : State) (cs : List Choice) : Type 0 where
  pub apart : HaveOwnPaths cs
  pub leads : (s : Situation) → AreTaken s cs → LeadsOn (steps_from specification turns A s) A (λ C. C ≡ B)

-- by way of states that are within
abbrev pub LeadTo : Specification → (turns : ℕ) → (within : State → Bool) → State → List (List Choice) → Type 0
LeadTo specification turns within B [] = B ≡ specification.initial
LeadTo specification turns within B (cs ∷ back) = (A : State) × LeadTo specification turns within A back × (within A ≡ true) × LeadBetween specification turns A B cs

abbrev pub MakesAll : Script → List (List Choice) → Type 0
MakesAll script [] = Unit {0}
MakesAll script (cs ∷ back) = AreTaken (record { script = script; step = suc (length back) }) cs × MakesAll script back

-- the step from the state of a node, as deep as that many steps lead to, goes wrong
pub record GoesWrongSo (specification : Specification) (turns : ℕ) (right rests within : State → Bool) (shape : Shape) (nodes : List Node) (bad : BadStep) : Type 0 where
  pub from : Node
  pub there : slice_get nodes bad.from ≡ Some from
  pub apart : HaveOwnPaths bad.choices.items
  pub wrong : (back : List (List Choice)) → LeadTo specification turns within (state_of shape from.state) back → (script : Script) → MakesAll script (bad.choices.items ∷ back)
      → GoesWrongIn specification turns right rests script bad.fault (suc (length back)) × StaysWithin specification turns within script (suc (length back))

module _ (shape : Shape) where
  abbrev pub state_at : Node → State
  state_at n = state_of shape n.state

  abbrev pub Known : List Node → ℕ → State → Type 0
  Known nodes d A = AnyOf (λ n. (n.depth ≤ d) × (state_at n ≡ A)) nodes

  -- it holds of the state of a node, which is at most `depth` deep, and of what is named
  abbrev pub AtNode : (State → RuleOverLimit → Type 0) → List Node → (number depth : ℕ) → RuleOverLimit → Type 0
  AtNode crowds nodes number depth crowd = (n : Node) × (slice_get nodes number ≡ Some n) × (n.depth ≤ depth) × crowds (state_at n) crowd

  pub record IsGood (right : State → Bool) (n : Node) : Type 0 where
    pub kept : IsStateOf shape n.state
    pub is_right : right (state_at n) ≡ true

  -- what outcomes of a step from a node's state lead on to is known
  abbrev pub FollowsStep : (old new : List Node) → (from below : ℕ) → List ListedOutcome → Type 0
  FollowsStep old new from below outcomes = (n : Node) (r : Result) → slice_get old from ≡ Some n → Shown shape outcomes r → LeadsOn r (state_at n) (Known new below)

  module _ (specification : Specification) (turns : ℕ) where
    -- some choices lead from a state to another
    abbrev pub MayLead : (A B : State) → Type 0
    MayLead A B = (cs : List Choice) × LeadBetween specification turns A B cs

    -- a node that a step leads to from an earlier one
    pub record ComesFrom (nodes : List Node) (n : Node) : Type 0 where
      pub earlier : Node
      pub there : slice_get nodes n.from ≡ Some earlier
      pub deeper : n.depth ≡ earlier.depth + 1
      pub leads : MayLead (state_at earlier) (state_at n)

    abbrev pub IsFirst : Node → Type 0
    IsFirst n = (n.depth ≡ 0) × (state_at n ≡ specification.initial)

    abbrev pub IsLinked : List Node → Node → Type 0
    IsLinked nodes n = IsFirst n ⊎ ComesFrom nodes n

    -- all of one depth
    pub record Extends (right : State → Bool) (below : ℕ) (old new : List Node) : Type 0 where
      pub more : List Node
      pub is : new ≡ old ++ more
      pub good : Each (IsGood right) more
      pub linked : Each (IsLinked new) more
      pub deep : Each (λ n. n.depth ≡ below) more

    -- there are as many nodes as that, and the step from the one with this number leads to one
    -- more, whose state none of them has
    pub record IsFull (right : State → Bool) (limit from : ℕ) (nodes : List Node) : Type 0 where
      pub many : limit ≤ length nodes
      pub more : Node
      pub new : IsNew nodes more.state
      pub good : IsGood right more
      pub begun : more.from ≡ from
      pub linked : ComesFrom nodes more

    -- that step begins in a state that is within, after at most `whole` steps
    pub record IsOverfull (right within : State → Bool) (limit whole : ℕ) (nodes : List Node) : Type 0 where
      pub from : ℕ
      pub full : IsFull right limit from nodes
      pub shallow : (n : Node) → slice_get nodes from ≡ Some n → (n.depth ≤ whole) × (within (state_at n) ≡ true)

    -- an outcome of the step from a node, which goes one step deeper
    abbrev pub IsOutcome : List Node → (from below : ℕ) → ListedOutcome → Type 0
    IsOutcome nodes from below f = (n : Node) → slice_get nodes from ≡ Some n → (below ≡ n.depth + 1) × IsSound shape (steps_from specification turns (state_at n)) f

    -- some choices lead from a node to a state one step deeper
    abbrev pub LeadsTo : List Node → (from below : ℕ) → State → Type 0
    LeadsTo nodes from below B = (n : Node) → slice_get nodes from ≡ Some n → (below ≡ n.depth + 1) × MayLead (state_at n) B

    -- a step from a node that goes wrong, in each situation that makes these choices
    abbrev pub IsBadStep : (right rests : State → Bool) → List Node → (from : ℕ) → List Choice → Fault → Type 0
    IsBadStep right rests nodes from choices fault =
        (n : Node) → slice_get nodes from ≡ Some n → (s : Situation) → AreTaken s choices
        → GoesWrong right (IsDeadlock specification turns rests) fault (steps_from specification turns (state_at n) s) (state_at n)

    abbrev pub Expanded : List Node → Node → Type 0
    Expanded nodes n = (s : Situation) → LeadsOn (steps_from specification turns (state_at n) s) (state_at n) (Known nodes (n.depth + 1))

    -- the node that a step to another one began in is within
    abbrev pub AreInside : (within : State → Bool) → List Node → Type 0
    AreInside within nodes = (j : ℕ) (k m : Node) → slice_get nodes j ≡ Some k → 0 < k.depth → slice_get nodes k.from ≡ Some m → within (state_at m) ≡ true

    -- the first i nodes are expanded, unless they are as deep as the search goes or aren't within
    pub record IsLooked (right within : State → Bool) (depth : ℕ) (i : ℕ) (nodes : List Node) : Type 0 where
      pub begins : Known nodes 0 specification.initial
      pub good : Each (IsGood right) nodes
      pub linked : Each (IsLinked nodes) nodes
      pub expanded : Each (λ n. n.depth < depth → within (state_at n) ≡ true → Expanded nodes n) (take i nodes)
      pub rises : Rises nodes
      pub inside : AreInside within nodes

    pub record IsBad (right rests : State → Bool) (nodes : List Node) (bad : BadStep) : Type 0 where
      pub from : Node
      pub there : slice_get nodes bad.from ≡ Some from
      pub apart : HaveOwnPaths bad.choices.items
      pub wrong : (s : Situation) → AreTaken s bad.choices.items → GoesWrong right (IsDeadlock specification turns rests) bad.fault (steps_from specification turns (state_at from) s) (state_at from)

    -- all nodes up to a depth are expanded, if they are within
    pub record IsSearched (right within : State → Bool) (depth : ℕ) (nodes : List Node) : Type 0 where
      pub begins : Known nodes 0 specification.initial
      pub good : Each (IsGood right) nodes
      pub expanded : Each (λ n. n.depth < depth → within (state_at n) ≡ true → Expanded nodes n) nodes

    -- `looked.expanded` nodes have been expanded, of at most `limit` states
    pub record IsStopped (crowds : State → RuleOverLimit → Type 0) (right rests within : State → Bool) (depth limit : ℕ) (nodes : List Node) (looked : SearchSoFar) : Type 0 where
      pub some : looked.expanded ≤ length nodes
      pub so_far : IsLooked right within depth looked.expanded nodes
      pub all : IsDone looked.ended → looked.expanded ≡ length nodes
      pub closed : looked.ended ≡ ended.Closed → Each (λ n. n.depth < depth) nodes
      pub wrong : IfBad looked.ended (λ bad. IsBad right rests nodes bad × (bad.from ≡ looked.expanded) × ((n : Node) → slice_get nodes bad.from ≡ Some n → (n.depth < depth) × (within (state_at n) ≡ true)))
      pub full : looked.ended ≡ ended.TooManyStates → IsFull right limit looked.expanded nodes × ((n : Node) → slice_get nodes looked.expanded ≡ Some n → within (state_at n) ≡ true)
      pub near : looked.ended ≡ ended.TooManyStates → (n : Node) × (slice_get nodes looked.expanded ≡ Some n) × (n.depth < depth) × Each (λ m. m.depth ≤ n.depth + 1) nodes
      pub crowded : IfOverLimit looked.ended (λ crowd. (n : Node) × (slice_get nodes looked.expanded ≡ Some n) × (n.depth < depth) × crowds (state_at n) crowd)
