-- Bridge to the code. Sequences through all scripts: the outcomes of the parts so far.
--     ends turns V            a part with the set V is the last: it is inconsistent, or empty if
--                             these are turns
--     step_of turns r rest    what a part yields, and what comes after it
--     HasSet shape holds f    an outcome is a set of which something holds, in each situation that
--                             takes its choices
--     Sorts, SortsAll         how outcomes of the next part are added to those that are done and to
--                             those that go on
--     ComesOf                 an outcome comes of one of the next part
--     BothHave P sorted       the choices of each outcome that is sorted are so
--     both_ways sorted        the choices of those that are done, and of those that go on
--     longer sorted           those that are done, or those that go on if they are more
--     AllDiffer p fs sorted   each two of these and those take different candidates
--     Underway                what stays true from part to part: each situation has its whole
--                             outcome among those that are done, or the set so far among those that
--                             go on
--     EndsLists, EndsSequence    what a call promises that ends a sequence
use Rattle.std.specs.Prelude.{◌≡◌, ◌<◌, ℕ, ◌+◌, Bool, false, cond, ltb, not, ◌&&◌, ◌||◌, List, ◌⊎◌, ◌++◌, length, Result as Returned, IfOk, IfErr}
use Rattle.std.proofs.Common.{Vec, Global}
use Rattle.asm_state.specs.Location.{State}
use Rattle.asm_state.specs.Signature.{Shape, count_of}
use Rattle.asm_state.specs.Updates.{UpdateSet, IsConsistent, is_consistent, is_none, merge, fire}
use Rattle.asm_updates.specs.code.SummaryRanges.{SummaryRanges}
use Rattle.asm_updates.specs.code.Stands.{Stands}
use Rattle.asm_meaning.specs.Yields.{Path, Result, Gives, Exhausted, at, after}
use Rattle.asm_explore.specs.declared.outcomes.listed_outcome.Choice.{Choice}
use Rattle.asm_explore.specs.declared.outcomes.listed_outcome.ListedOutcome.{ListedOutcome}
use Rattle.asm_explore.specs.declared.outcomes.list_error.ListError.{ListError}
use Rattle.asm_explore.specs.declared.outcomes.outcomes_error.OutcomesError.{OutcomesError}
use Rattle.asm_explore.specs.declared.outcomes.sequence_outcomes.SequenceOutcomes.{SequenceOutcomes}
use Rattle.asm_explore.specs.code.OutcomeLists.{Situation, Each, AnyOf, AreTaken, Shows, Shown, HaveChoices, IsCounted, AreCounted, IsSound, Lists, ListGrows}
use Rattle.asm_explore.specs.code.ChoicesMade.{AreMade, IsWay}
use Rattle.asm_explore.specs.code.ChoicePaths.{LieBelow, IsPlacedBefore}
use Rattle.asm_explore.specs.code.ChoiceLists.{choice_lists, AreSomeOf, behind}
use Rattle.asm_explore.specs.code.OverLimit.{AreDifferent, IfTooMany, IsOverLimit, NamesRule, Refuses}

abbrev pub ends : (turns : Bool) → UpdateSet → Bool
ends turns V = (turns && is_none V) || not (is_consistent V)

abbrev pub step_of : (turns : Bool) → Result → (UpdateSet → Result) → Result
step_of turns (Exhausted q) rest = Exhausted q
step_of turns (Gives V) rest = cond (ends turns V) (Gives V) (after V (rest V))

-- a summary's test says whether its set is the last
abbrev pub IsTold : Shape → (turns : Bool) → SummaryRanges → Bool → Type 0
IsTold shape turns set last = (V : UpdateSet) → Stands shape set V → last ≡ ends turns V

abbrev pub Merges : (so_far later joined : SummaryRanges) → Type 0
Merges so_far later joined = (shape : Shape) (U V : UpdateSet) → Stands shape so_far U → Stands shape later V → Stands shape joined (merge U V)

-- what a whole sequence yields in a situation is what comes after the set U, in the state in which
-- it has been fired
abbrev pub ComesAfter : State → (total : Situation → Result) → (left : Situation → State → Result) → Situation → UpdateSet → Type 0
ComesAfter A total left s U = IsConsistent U × (total s ≡ after U (left s (fire A U)))

-- an outcome is a set of which this holds, in each situation that takes its choices
abbrev pub HasSet : Shape → (holds : Situation → UpdateSet → Type 0) → ListedOutcome → Type 0
HasSet shape holds f = (s : Situation) → AreTaken s f.choices → (U : UpdateSet) × Shows shape f.answer (Gives U) × holds s U

abbrev pub IsOn : Shape → State → (total : Situation → Result) → (left : Situation → State → Result) → ListedOutcome → Type 0
IsOn shape A total left = HasSet shape (ComesAfter A total left)

pub record Underway (shape : Shape) (A : State) (total : Situation → Result) (left : Situation → State → Result) (done front : List ListedOutcome) : Type 0 where
  pub done_counted : AreCounted (count_of shape) done
  pub front_counted : AreCounted (count_of shape) front
  pub complete : (s : Situation) → Shown shape done (total s) ⊎ ((U : UpdateSet) × Shown shape front (Gives U) × ComesAfter A total left s U)
  pub done_sound : Each (IsSound shape total) done
  pub front_sound : Each (IsOn shape A total left) front

-- of those that are done, and of those that go on
abbrev pub BothHave : (List Choice → Type 0) → SequenceOutcomes → Type 0
BothHave P sorted = HaveChoices P sorted.done.items × HaveChoices P sorted.more.items

abbrev pub both_ways : SequenceOutcomes → List (List Choice)
both_ways sorted = choice_lists sorted.done.items ++ choice_lists sorted.more.items

abbrev pub longer : SequenceOutcomes → List ListedOutcome
longer sorted = cond (ltb (length sorted.done.items) (length sorted.more.items)) sorted.more.items sorted.done.items

-- with others, which are still to go on
abbrev pub AllDiffer : Path → List ListedOutcome → SequenceOutcomes → Type 0
AllDiffer p front sorted = AreDifferent p (choice_lists front ++ both_ways sorted)

-- ---- how one outcome of the next part is added

-- a set so far, and an outcome of the next part with which the sequence ends
pub record Ends (shape : Shape) (turns : Bool) (so_far : SummaryRanges) (q joined : ListedOutcome) : Type 0 where
  pub shows : (U : UpdateSet) (x : Result) (rest : UpdateSet → Result) → Stands shape so_far U → Shows shape q.answer x → Shows shape joined.answer (after U (step_of turns x rest))

-- one with which it goes on
pub record SequenceGoesOn (shape : Shape) (turns : Bool) (so_far : SummaryRanges) (q joined : ListedOutcome) : Type 0 where
  pub shows : (U : UpdateSet) (x : Result) → Stands shape so_far U → Shows shape q.answer x
      → (V : UpdateSet) × (x ≡ Gives V) × (ends turns V ≡ false) × Shows shape joined.answer (Gives (merge U V))

pub record Sorts (shape : Shape) (turns : Bool) (so_far : SummaryRanges) (choices : List Choice) (q : ListedOutcome) (old new : SequenceOutcomes) : Type 0 where
  pub joined : ListedOutcome
  pub chosen : joined.choices ≡ choices ++ q.choices
  pub counted : IsCounted (count_of shape) joined.answer
  pub went : (Ends shape turns so_far q joined × ListGrows old.done.items joined new.done.items × (new.more.items ≡ old.more.items))
      ⊎ (SequenceGoesOn shape turns so_far q joined × ListGrows old.more.items joined new.more.items × (new.done.items ≡ old.done.items))

-- ---- how all of them are

abbrev pub IsIn : ListedOutcome → List ListedOutcome → Type 0
IsIn f fs = AnyOf (λ g. g ≡ f) fs

-- an outcome that comes of one of the next part, with which the sequence goes on
pub record ComesOf (shape : Shape) (turns : Bool) (so_far : SummaryRanges) (choices : List Choice) (part : List ListedOutcome) (f : ListedOutcome) : Type 0 where
  pub one : ListedOutcome
  pub among : IsIn one part
  pub chosen : f.choices ≡ choices ++ one.choices
  pub goes_on : SequenceGoesOn shape turns so_far one f

pub record SortsAll (shape : Shape) (turns : Bool) (so_far : SummaryRanges) (choices : List Choice) (part : List ListedOutcome) (old new : SequenceOutcomes) : Type 0 where
  pub done_counted : AreCounted (count_of shape) old.done.items → AreCounted (count_of shape) new.done.items
  pub more_counted : AreCounted (count_of shape) old.more.items → AreCounted (count_of shape) new.more.items
  pub done_older : (r : Result) → Shown shape old.done.items r → Shown shape new.done.items r
  pub more_older : (r : Result) → Shown shape old.more.items r → Shown shape new.more.items r
  pub shown : (U : UpdateSet) (x : Result) (rest : UpdateSet → Result) → Stands shape so_far U → Shown shape part x
      → Shown shape new.done.items (after U (step_of turns x rest))
      ⊎ ((V : UpdateSet) × (x ≡ Gives V) × (ends turns V ≡ false) × Shown shape new.more.items (Gives (merge U V)))
  pub done_sound : (total o : Situation → Result)
      → ((s : Situation) → AreTaken s choices → (U : UpdateSet) × (rest : UpdateSet → Result) × Stands shape so_far U × (total s ≡ after U (step_of turns (o s) rest)))
      → Each (IsSound shape o) part → Each (IsSound shape total) old.done.items → Each (IsSound shape total) new.done.items
  pub more_sound : (A : State) (total : Situation → Result) (left : Situation → State → Result) (o : Situation → Result)
      → ((s : Situation) → AreTaken s choices → (U : UpdateSet) × Stands shape so_far U
      × ((V : UpdateSet) → o s ≡ Gives V → ends turns V ≡ false → ComesAfter A total left s (merge U V)))
      → Each (IsSound shape o) part → Each (IsOn shape A total left) old.more.items → Each (IsOn shape A total left) new.more.items
  pub more_from : Each (λ f. IsIn f old.more.items ⊎ ComesOf shape turns so_far choices part f) new.more.items
  pub placed : (p : Path) (k : ℕ) → IsPlacedBefore p k choices → HaveChoices (LieBelow (at p k)) part
      → BothHave (IsPlacedBefore p (k + 1)) old → BothHave (IsPlacedBefore p (k + 1)) new
  pub chosen : AreSomeOf (both_ways new) (both_ways old ++ behind choices (choice_lists part))
  pub done_chosen : AreSomeOf (choice_lists new.done.items) (choice_lists old.done.items ++ behind choices (choice_lists part))
  pub more_chosen : AreSomeOf (choice_lists new.more.items) (choice_lists old.more.items ++ behind choices (choice_lists part))

-- ---- what a part yields upon a set so far

-- what a rule at the path p yields in each situation, and which choices it makes, in the state in
-- which a set so far has been fired
pub record Upon (shape : Shape) (A : State) (so_far : SummaryRanges) (limit : ℕ) (p : Path) (here : Situation → State → Result) (makes : Situation → State → List Choice)
    (part : Returned (Vec ListedOutcome Global) OutcomesError) : Type 0 where
  pub state : State
  pub fired : (U : UpdateSet) → Stands shape so_far U → IsConsistent U → state ≡ fire A U
  pub lists : IfOk part (λ fs. Lists shape (λ s. here s state) fs.items)
  pub made : IfOk part (λ fs. HaveChoices (AreMade (λ s. makes s state)) fs.items)
  pub refuses : IfErr part (Refuses limit (λ q. IsWay p (λ s. makes s state)))

-- what is left is what the next part yields, and what is left after it
abbrev pub StepsTo : (turns : Bool) → (left here left_then : Situation → State → Result) → Type 0
StepsTo turns left here left_then = (s : Situation) (B : State) → left s B ≡ step_of turns (here s B) (λ V. left_then s (fire B V))

-- how the first of those that go on have gone on
pub record Next (shape : Shape) (turns : Bool) (A : State) (here : Situation → State → Result) (front old : List ListedOutcome) (new : SequenceOutcomes) : Type 0 where
  pub done_counted : AreCounted (count_of shape) old → AreCounted (count_of shape) new.done.items
  pub more_counted : AreCounted (count_of shape) new.more.items
  pub older : (r : Result) → Shown shape old r → Shown shape new.done.items r
  pub shown : (total : Situation → Result) (left left_then : Situation → State → Result) → StepsTo turns left here left_then
      → (s : Situation) (U : UpdateSet) → Shown shape front (Gives U) → ComesAfter A total left s U
      → Shown shape new.done.items (total s) ⊎ ((W : UpdateSet) × Shown shape new.more.items (Gives W) × ComesAfter A total left_then s W)
  pub done_sound : (total : Situation → Result) (left left_then : Situation → State → Result) → StepsTo turns left here left_then
      → Each (IsOn shape A total left) front → Each (IsSound shape total) old → Each (IsSound shape total) new.done.items
  pub more_sound : (total : Situation → Result) (left left_then : Situation → State → Result) → StepsTo turns left here left_then
      → Each (IsOn shape A total left) front → Each (IsOn shape A total left_then) new.more.items

-- how one of them has gone on, after others
pub record NextOne (shape : Shape) (turns : Bool) (A : State) (here : Situation → State → Result) (f : ListedOutcome) (old new : SequenceOutcomes) : Type 0 where
  pub done_counted : AreCounted (count_of shape) old.done.items → AreCounted (count_of shape) new.done.items
  pub more_counted : AreCounted (count_of shape) old.more.items → AreCounted (count_of shape) new.more.items
  pub done_older : (r : Result) → Shown shape old.done.items r → Shown shape new.done.items r
  pub more_older : (r : Result) → Shown shape old.more.items r → Shown shape new.more.items r
  pub shown : (total : Situation → Result) (left left_then : Situation → State → Result) → StepsTo turns left here left_then
      → (s : Situation) (U : UpdateSet) → Shows shape f.answer (Gives U) → ComesAfter A total left s U
      → Shown shape new.done.items (total s) ⊎ ((W : UpdateSet) × Shown shape new.more.items (Gives W) × ComesAfter A total left_then s W)
  pub done_sound : (total : Situation → Result) (left left_then : Situation → State → Result) → StepsTo turns left here left_then
      → IsOn shape A total left f → Each (IsSound shape total) old.done.items → Each (IsSound shape total) new.done.items
  pub more_sound : (total : Situation → Result) (left left_then : Situation → State → Result) → StepsTo turns left here left_then
      → IsOn shape A total left f → Each (IsOn shape A total left_then) old.more.items → Each (IsOn shape A total left_then) new.more.items

-- ---- the end

-- a list with the outcomes of another
pub record AddsOutcome (old more new : List ListedOutcome) : Type 0 where
  pub counted : (n : ℕ) → AreCounted n old → AreCounted n more → AreCounted n new
  pub older : (shape : Shape) (r : Result) → Shown shape old r → Shown shape new r
  pub shown : (shape : Shape) (r : Result) → Shown shape more r → Shown shape new r
  pub sound : (shape : Shape) (o : Situation → Result) → Each (IsSound shape o) old → Each (IsSound shape o) more → Each (IsSound shape o) new
  pub placed : (q : Path) → HaveChoices (LieBelow q) old → HaveChoices (LieBelow q) more → HaveChoices (LieBelow q) new
  pub chosen : AreSomeOf (choice_lists new) (choice_lists old ++ choice_lists more)

-- a list with the choices of others, after which the whole is exhausted
pub record Exhausts (p : Path) (old more new : List ListedOutcome) : Type 0 where
  pub counted : (n : ℕ) → AreCounted n old → AreCounted n new
  pub older : (shape : Shape) (r : Result) → Shown shape old r → Shown shape new r
  pub shown : (shape : Shape) (r : Result) → Shown shape more r → Shown shape new (Exhausted p)
  pub sound : (shape : Shape) (o : Situation → Result) → Each (λ f. (s : Situation) → AreTaken s f.choices → o s ≡ Exhausted p) more
      → Each (IsSound shape o) old → Each (IsSound shape o) new
  pub placed : (q : Path) → HaveChoices (LieBelow q) old → HaveChoices (LieBelow q) more → HaveChoices (LieBelow q) new
  pub chosen : AreSomeOf (choice_lists new) (choice_lists old ++ choice_lists more)

-- what a call promises that ends a sequence, if nothing but this is left upon each of the sets so
-- far
pub record EndsLists (last : Result) (limit : ℕ) (sorted : SequenceOutcomes) (result : Returned (Vec ListedOutcome Global) ListError) : Type 0 where
  pub lists : (shape : Shape) (A : State) (total : Situation → Result) (left : Situation → State → Result) → ((s : Situation) (B : State) → left s B ≡ last)
      → Underway shape A total left sorted.done.items sorted.more.items → IfOk result (λ fs. Lists shape total fs.items)
  pub placed : (p : Path) → BothHave (LieBelow p) sorted → IfOk result (λ fs. HaveChoices (LieBelow p) fs.items)
  pub chosen : IfOk result (λ fs. AreSomeOf (choice_lists fs.items) (both_ways sorted))
  pub crowd : IfErr result (IfTooMany (limit < length (both_ways sorted)))

-- the same, if the rule at this path is named in a refusal
pub record EndsSequence (last : Result) (limit : ℕ) (path : Path) (sorted : SequenceOutcomes) (result : Returned (Vec ListedOutcome Global) OutcomesError) : Type 0 where
  pub lists : (shape : Shape) (A : State) (total : Situation → Result) (left : Situation → State → Result) → ((s : Situation) (B : State) → left s B ≡ last)
      → Underway shape A total left sorted.done.items sorted.more.items → IfOk result (λ fs. Lists shape total fs.items)
  pub placed : BothHave (LieBelow path) sorted → IfOk result (λ fs. HaveChoices (LieBelow path) fs.items)
  pub chosen : IfOk result (λ fs. AreSomeOf (choice_lists fs.items) (both_ways sorted))
  pub names : IfErr result (NamesRule path (length sorted.done.items) (length sorted.more.items))
  pub crowd : IfErr result (IsOverLimit limit (both_ways sorted))
