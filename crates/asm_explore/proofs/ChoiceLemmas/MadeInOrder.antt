-- Free. Sequences through all scripts: the choices that are made.
--     begun_made              before the first part
--     next_made_none          before the first of those that go on
--     part_within             the choices of a part that is reached are those of the whole
--     rest_within             and so are those of what is left after it
--     one_made, way_then      one of those that go on has gone on; a way through the next part
--                             after it
--     part_refused, sorted_refused     if what comes of it is refused
use Rattle.std.proofs.Common.{◌≡◌, ℕ, ◌+◌, ◌<◌, Bool, false, cond, List, [], ◌++◌, ◌∷◌, ◌⊎◌, inl, inr, sym, ap, subst, ◌∙◌, length}
use Rattle.std.specs.Prelude.{Result as Returned, IfErr}
use Rattle.std.specs.Result.{IsErrAnd}
use Rattle.asm_state.specs.Location.{State}
use Rattle.asm_state.specs.Signature.{Shape}
use Rattle.asm_state.specs.Updates.{UpdateSet, IsConsistent, none, merge, fire}
use Rattle.asm_state.proofs.UpdateLemmas.UnionsAndMerges.{merge_laws}
use Rattle.asm_state.proofs.UpdateLemmas.Summaries.{fire_laws}
use Rattle.asm_updates.specs.code.Stands.{Stands}
use Rattle.asm_meaning.specs.Yields.{Path, Result, Gives, at}
use Rattle.asm_explore.specs.declared.outcomes.listed_outcome.RuleResult.TheVariants as answer
use Rattle.asm_explore.specs.declared.outcomes.listed_outcome.Choice.{Choice}
use Rattle.asm_explore.specs.declared.outcomes.listed_outcome.ListedOutcome.{ListedOutcome}
use Rattle.asm_explore.specs.declared.outcomes.outcomes_error.OutcomesError.{OutcomesError}
use Rattle.asm_explore.specs.declared.outcomes.sequence_outcomes.SequenceOutcomes.{SequenceOutcomes}
use Rattle.asm_explore.specs.declared.updates.Updates.{Updates}
use Rattle.asm_explore.specs.code.OverLimit.{NamesRule, IsOverLimit, IsAmong, AreDifferent, Refuses}
use Rattle.asm_explore.specs.code.OutcomeLists.{Situation, Each, IsTaken, Shows, HaveChoices, IsSound, Lists}
use Rattle.asm_explore.specs.code.ChoicesMade.{AreMade, IsWay}
use Rattle.asm_explore.specs.code.ChoicesMadeSoFar.{made_after, MakesTo, MakesOfAll, MadeSoFar}
use Rattle.asm_explore.specs.code.ChoicePaths.{LieBelow, IsPlacedBefore}
use Rattle.asm_explore.specs.code.Sequences.{ends, HasSet, IsIn, ComesOf, SortsAll, BothHave, longer, AllDiffer}
use Rattle.asm_explore.specs.code.ChoiceLists.{choice_lists, behind}
use Rattle.asm_explore.proofs.ChoiceLemmas.ChoicesCarried.{have_sorted}
use Rattle.asm_explore.proofs.OutcomeLemmas.OverLimit.{refuses_on, sorted_refuses}
use Rattle.asm_explore.proofs.Elements.{each_among, each_append, each_first, each_last, each_weaker, any_first, any_last}
use Rattle.asm_explore.proofs.ChoiceLemmas.MadeChoices.{none_made}
use Rattle.asm_explore.proofs.ChoiceLemmas.ChoicePaths.{placed_in, before_part}
use Rattle.asm_explore.proofs.OutcomeLemmas.RefusedParts.{then_refuses, have_ways_made, both_ways_made}
use Rattle.asm_explore.proofs.OutcomeLemmas.SequenceOutcomes.{none_consistent, good_by, both_placed}

pub begun_made : (shape : Shape) (A : State) (total : Situation → List Choice) (left : Situation → State → List Choice) → ((s : Situation) → left s A ≡ total s)
    → (done front : List ListedOutcome) → done ≡ [] → HaveChoices (λ cs. cs ≡ []) front → Lists shape (λ s. Gives none) front → MadeSoFar shape A total left done front
begun_made shape A total left same done front empty nothing lists = record {
  done_made = subst (HaveChoices (AreMade total)) (sym empty) tt;
  front_made = none_made total front nothing;
  front_on = each_weaker (IsSound shape (λ s. Gives none)) (HasSet shape (MakesOfAll A total left)) (λ f sound s taken. (none, sound s taken, at_first s)) front lists.sound;
}
  where
    at_first : (s : Situation) → MakesOfAll A total left s none
    at_first s = record { consistent = none_consistent; within = λ c. subst (IsAmong c) (ap (left s) (fire_laws.of_none A) ∙ same s) }

-- before the first of those that go on
pub next_made_none : (shape : Shape) (A : State) (total : Situation → List Choice) (left left_then : Situation → State → List Choice) (done front more : List ListedOutcome) → more ≡ []
    → MadeSoFar shape A total left done front → MadeSoFar shape A total left_then done more
next_made_none shape A total left left_then done front more empty so_far = record {
  done_made = so_far.done_made;
  front_made = subst (HaveChoices (AreMade total)) (sym empty) tt;
  front_on = subst (Each (HasSet shape (MakesOfAll A total left_then))) (sym empty) tt;
}

module _ (shape : Shape) (turns : Bool) (A : State) (here : Situation → State → Result) (makes : Situation → State → List Choice)
    (total : Situation → List Choice) (left left_then : Situation → State → List Choice) (steps : MakesTo turns here makes left left_then) where
  pub part_within : (s : Situation) (U : UpdateSet) (B : State) → B ≡ fire A U → MakesOfAll A total left s U → (c : Choice) → IsAmong c (makes s B) → IsAmong c (total s)
  part_within s U B is on c there =
      let rest = made_after turns (here s B) (λ V. left_then s (fire B V)) in
      on.within c (subst (λ C. IsAmong c (left s C)) is (subst (IsAmong c) (sym (steps s B)) (any_first (λ d. d ≡ c) (makes s B) rest there)))

  pub rest_within : (s : Situation) (U V : UpdateSet) (B : State) → B ≡ fire A U → MakesOfAll A total left s U → here s B ≡ Gives V → ends turns V ≡ false
      → MakesOfAll A total left_then s (merge U V)
  rest_within s U V B is on gives not_last =
      let rest = made_after turns (here s B) (λ W. left_then s (fire B W)) in
      let same : rest ≡ left_then s (fire A (merge U V)) =
      ap (λ r. made_after turns r (λ W. left_then s (fire B W))) gives ∙ ap (λ b. cond b [] (left_then s (fire B V))) not_last
      ∙ ap (λ C. left_then s (fire C V)) is ∙ ap (left_then s) (sym (merge_laws.firing A U V)) in
      record {
        consistent = merge_laws.consistent U V on.consistent (good_by turns V not_last);
        within = λ c there.
            on.within c (subst (λ C. IsAmong c (left s C)) is (subst (IsAmong c) (sym (steps s B)) (any_last (λ d. d ≡ c) (makes s B) rest (subst (IsAmong c) (sym same) there))));
      }

  -- the choices of one of those that go on, and of an outcome of the next part after them
  module _ (f : ListedOutcome) (so_far : Updates) (is : f.answer ≡ answer.Set so_far) (state : State)
      (fired : (U : UpdateSet) → Stands shape so_far.set U → IsConsistent U → state ≡ fire A U)
      (own : AreMade total f.choices) (on : HasSet shape (MakesOfAll A total left) f) where
    stands : (s : Situation) (U : UpdateSet) → Shows shape f.answer (Gives U) → Stands shape so_far.set U
    stands s U h = subst (λ a. Shows shape a (Gives U)) is h

    pub then_made : (ds : List Choice) → AreMade (λ s. makes s state) ds → AreMade total (f.choices ++ ds)
    then_made ds h = λ s taken.
        let first = each_first (IsTaken s) f.choices ds taken in
        let here = on s first in
        each_append (λ c. IsAmong c (total s)) f.choices ds (own s first)
        (each_weaker (λ c. IsAmong c (makes s state)) (λ c. IsAmong c (total s))
        (part_within s here.0 state (fired here.0 (stands s here.0 here.1) here.2.consistent) here.2) ds (h s (each_last (IsTaken s) f.choices ds taken)))

    -- one that goes on with the next part
    then_on : (part : List ListedOutcome) → Each (IsSound shape (λ s. here s state)) part → (g : ListedOutcome) → ComesOf shape turns so_far.set f.choices part g
        → HasSet shape (MakesOfAll A total left_then) g
    then_on part sound g of = λ s taken.
        let all = subst (Each (IsTaken s)) of.chosen taken in
        let it = on s (each_first (IsTaken s) f.choices of.one.choices all) in
        let there = stands s it.0 it.1 in
        let shown = each_among (IsSound shape (λ s. here s state)) part of.one of.among sound s (each_last (IsTaken s) f.choices of.one.choices all) in
        let goes = of.goes_on.shows it.0 (here s state) there shown in
        (merge it.0 goes.0, goes.3, rest_within s it.0 goes.0 state (fired it.0 there it.2.consistent) it.2 goes.1 goes.2)

    all_on : (part : List ListedOutcome) (old new : SequenceOutcomes) → Each (IsSound shape (λ s. here s state)) part → SortsAll shape turns so_far.set f.choices part old new
        → Each (HasSet shape (MakesOfAll A total left_then)) old.more.items → Each (HasSet shape (MakesOfAll A total left_then)) new.more.items
    all_on part old new sound sorts so_on =
        each_weaker (λ g. IsIn g old.more.items ⊎ ComesOf shape turns so_far.set f.choices part g) (HasSet shape (MakesOfAll A total left_then)) by_way new.more.items sorts.more_from
      where
        by_way : (g : ListedOutcome) → IsIn g old.more.items ⊎ ComesOf shape turns so_far.set f.choices part g → HasSet shape (MakesOfAll A total left_then) g
        by_way g (inl h) = each_among (HasSet shape (MakesOfAll A total left_then)) old.more.items g h so_on
        by_way g (inr h) = then_on part sound g h

    pub one_made : (part : List ListedOutcome) (old new : SequenceOutcomes) → HaveChoices (AreMade (λ s. makes s state)) part → Lists shape (λ s. here s state) part
        → SortsAll shape turns so_far.set f.choices part old new
        → MadeSoFar shape A total left_then old.done.items old.more.items → MadeSoFar shape A total left_then new.done.items new.more.items
    one_made part old new made lists sorts so_on =
        let both : BothHave (AreMade total) new =
        have_sorted (AreMade (λ s. makes s state)) (AreMade total) f.choices then_made part made old new sorts.chosen (so_on.done_made, so_on.front_made) in
        record { done_made = both.0; front_made = both.1; front_on = all_on part old new lists.sound sorts so_on.front_on }

    -- a way through the next part, after those choices
    pub way_then : (p : Path) (k : ℕ) → IsPlacedBefore p k f.choices → (ds : List Choice) → IsWay (at p k) (λ s. makes s state) ds → IsWay p total (f.choices ++ ds)
    way_then p k before ds h = record {
      placed = placed_in p (λ i. i < k + 1) (f.choices ++ ds) (before_part p k f.choices ds before h.placed);
      made = then_made ds h.made;
    }

    -- if that is refused, or the list of what comes of it
    pub part_refused : {T : Type 0} (limit : ℕ) (p : Path) (k : ℕ) → IsPlacedBefore p k f.choices → (returned : Returned T OutcomesError) (e : OutcomesError) → IsErrAnd returned (λ again. again ≡ e)
        → Refuses limit (λ q. IsWay (at p k) (λ s. makes s state)) e → IfErr returned (Refuses limit (λ q. IsWay p total))
    part_refused limit p k before returned e same h =
        refuses_on limit (λ q. IsWay p total) returned e same
        (then_refuses limit (IsWay (at p k) (λ s. makes s state)) (IsWay p total) f.choices (way_then p k before) e h)

    pub sorted_refused : (limit : ℕ) (p : Path) (k : ℕ) → IsPlacedBefore p k f.choices → (part : List ListedOutcome) (sorted : SequenceOutcomes) → AllDiffer p (f ∷ []) sorted → AreDifferent (at p k) (choice_lists part)
        → HaveChoices (LieBelow (at p k)) part → HaveChoices (AreMade (λ s. makes s state)) part → BothHave (IsPlacedBefore p (k + 1)) sorted
        → HaveChoices (AreMade total) sorted.done.items → HaveChoices (AreMade total) sorted.more.items
        → (r : OutcomesError) → NamesRule p (length part) (length (longer sorted)) r → IsOverLimit limit (choice_lists (longer sorted) ++ behind f.choices (choice_lists part)) r → Refuses limit (λ q. IsWay p total) r
    sorted_refused limit p k before part sorted differ part_differs placed made both done_made more_made =
        sorted_refuses limit (λ q. IsWay p total) (IsWay (at p k) (λ s. makes s state)) p k f (way_then p k before) part sorted differ part_differs
        (have_ways_made (at p k) (λ s. makes s state) part placed made)
        (both_ways_made p total sorted (both_placed p (k + 1) sorted both) done_made more_made)
