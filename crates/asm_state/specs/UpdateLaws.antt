-- Laws of update sets and of their summaries.
use Rattle.std.specs.Prelude.{◌≡◌, ◌↔◌, ◌⊎◌, Option, Some, None}
use Rattle.std.specs.Bool.{Decides}
use Rattle.asm_state.specs.declared.value.Value.{Value}
use Rattle.asm_state.specs.Location.{Location, Proper, Stray, State, changed}
use Rattle.asm_state.specs.Updates.{UpdateSet, Has, Names, IsConsistent, is_consistent, is_none, none, one, together, merge, Range, range_of_one, widen, later_range, range_at, overwritten, fire, IsRangeOf, IsSummary, IsFaulty, Fault, IsFirstFault}

abbrev pub Summary : Type 0
Summary = Location → Option Range

-- ---- what is in the results of the operations

pub record MemberLaws : Type 0 where
  pub of_none : (l : Location) (v : Value) → ¬ (Has none l v)
  pub of_one : (l m : Location) (v w : Value) → Has (one l v) m w ↔ (m ≡ l) × (w ≡ v)
  pub of_union : (U V : UpdateSet) (l : Location) (v : Value) → Has (together U V) l v ↔ Has U l v ⊎ Has V l v
  pub of_merge : (U V : UpdateSet) (l : Location) (v : Value) → Has (merge U V) l v ↔ (Has U l v × (¬ (Names V l))) ⊎ Has V l v
  -- sets with the same updates are one set
  pub of_same : (U V : UpdateSet) → ((l : Location) (v : Value) → Has U l v ↔ Has V l v) → U ≡ V

-- the tests of emptiness and of consistency test just that
pub record TestLaws : Type 0 where
  pub emptiness : (U : UpdateSet) → Decides (is_none U) (U ≡ none)
  pub consistency : (U : UpdateSet) → Decides (is_consistent U) (IsConsistent U)

-- ---- summaries

-- a range is settled if it leaves no fault
abbrev pub LeavesNoFault : Location → Option Range → Type 0
LeavesNoFault l None = Unit {0}
LeavesNoFault (Proper f vs) (Some r) = r.least ≡ r.greatest
LeavesNoFault (Stray f) (Some r) = ⊥

pub record SummaryLaws : Type 0 where
  -- each set has just one summary
  pub exists : (U : UpdateSet) → IsSummary U (range_at U)
  pub one_range : (U : UpdateSet) (l : Location) (r s : Option Range) → IsRangeOf (Has U l) r → IsRangeOf (Has U l) s → r ≡ s
  pub is_one : (U : UpdateSet) (s t : Summary) → IsSummary U s → IsSummary U t → s ≡ t
  -- that of no update is empty everywhere, and that of one update everywhere but at its location
  pub of_none : IsSummary none (λ l. None)
  pub of_one : (l : Location) (v : Value) → IsSummary (one l v) (range_of_one l v)
  -- that of a union is the pointwise least and greatest
  pub of_union : (U V : UpdateSet) (s t : Summary) → IsSummary U s → IsSummary V t → IsSummary (together U V) (λ l. widen (s l) (t l))
  -- that of a merge has the later entry if there is one, and else the earlier one
  pub of_merge : (U V : UpdateSet) (s t : Summary) → IsSummary U s → IsSummary V t → IsSummary (merge U V) (λ l. later_range (s l) (t l))
  -- emptiness, consistency, the first fault and the fired state depend on the summary alone
  pub emptiness : (U : UpdateSet) (s : Summary) → IsSummary U s → (U ≡ none) ↔ ((l : Location) → s l ≡ None)
  pub consistency : (U : UpdateSet) (s : Summary) → IsSummary U s → IsConsistent U ↔ ((l : Location) → LeavesNoFault l (s l))
  pub first_fault : (U V : UpdateSet) (s : Summary) → IsSummary U s → IsSummary V s → (fault : Fault) → IsFirstFault U fault → IsFirstFault V fault
  pub firing : (A : State) (U : UpdateSet) (s : Summary) → IsSummary U s → (l : Location) → fire A U l ≡ overwritten (s l) (A l)

-- ---- firing

pub record FireLaws : Type 0 where
  -- a consistent set gives the locations that it names its values, and no other location changes
  pub named : (A : State) (U : UpdateSet) (l : Location) (v : Value) → IsConsistent U → Has U l v → fire A U l ≡ v
  pub others : (A : State) (U : UpdateSet) (l : Location) → ¬ (Names U l) → fire A U l ≡ A l
  pub of_one : (A : State) (l : Location) (v : Value) → fire A (one l v) ≡ changed A l v
  pub of_none : (A : State) → fire A none ≡ A

-- ---- unions and merges

pub record UnionLaws : Type 0 where
  pub unit : (U : UpdateSet) → together none U ≡ U
  pub swap : (U V : UpdateSet) → together U V ≡ together V U
  pub group : (U V W : UpdateSet) → together (together U V) W ≡ together U (together V W)
  pub itself : (U : UpdateSet) → together U U ≡ U

pub record MergeLaws : Type 0 where
  pub first_unit : (U : UpdateSet) → merge none U ≡ U
  pub last_unit : (U : UpdateSet) → merge U none ≡ U
  pub group : (U V W : UpdateSet) → merge (merge U V) W ≡ merge U (merge V W)
  -- the merge of consistent sets is consistent, and to fire it is to fire the one and then the
  -- other
  pub consistent : (U V : UpdateSet) → IsConsistent U → IsConsistent V → IsConsistent (merge U V)
  pub firing : (A : State) (U V : UpdateSet) → fire A (merge U V) ≡ fire (fire A U) V

pub record FaultLaws : Type 0 where
  -- a location is faulty exactly if its range isn't settled
  pub by_summary : (U : UpdateSet) (s : Summary) → IsSummary U s → (l : Location) → IsFaulty U l ↔ (¬ (LeavesNoFault l (s l)))
  -- a set has no faulty location exactly if it is consistent, and else just one first fault
  pub no_fault : (U : UpdateSet) → IsConsistent U ↔ ((l : Location) → ¬ (IsFaulty U l))
  pub has_first : (U : UpdateSet) → ¬ (IsConsistent U) → (fault : Fault) × IsFirstFault U fault
  pub one_first : (U : UpdateSet) (f g : Fault) → IsFirstFault U f → IsFirstFault U g → f ≡ g
