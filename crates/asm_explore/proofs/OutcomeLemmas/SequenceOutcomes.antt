-- Free. Sequences through all scripts.
--     told_*                  whether a part is the last
--     ends_*, goes_set        how one outcome of the next part is added
--     both_*                  where the choices of outcomes so far are
--     sorted_none, sorted_more, sorted_all      how the first of them are
--     next_none, next_more, next_all            how the first outcomes so far go on
--     begun, underway_next, ended               a sequence from part to part
--     closed, all_exhausted                     its end
use Rattle.std.proofs.Common.{◌≡◌, ℕ, ◌+◌, ◌<◌, ◌≤◌, Bool, true, false, cond, not, ◌&&◌, ◌||◌, List, [], ◌∷◌, ◌++◌, length, take, get_or, ◌⊎◌, inl, inr, refl, sym, ap, subst, ◌∙◌, arith}
use Rattle.std.specs.Prelude.{Option, Some, None, is_some, IfNone, IfSome}
use Rattle.std.proofs.Math.Bool.{or-true}
use Rattle.std.proofs.lemmas.Bool.{false_from_ne_true}
use Rattle.std.proofs.lemmas.List.{take_all, take_more}
use Rattle.asm_state.specs.Location.{Proper, Stray, State}
use Rattle.asm_state.specs.Signature.{Shape, count_of}
use Rattle.asm_state.specs.Updates.{UpdateSet, IsConsistent, is_consistent, is_none, none, merge, fire, Fault, Clash, Outside, IsFirstFault}
use Rattle.asm_state.proofs.UpdateLemmas.UnionsAndMerges.{merge_laws}
use Rattle.asm_state.proofs.UpdateLemmas.Faults.{fault_laws}
use Rattle.asm_state.proofs.UpdateLemmas.Members.{member_laws}
use Rattle.asm_state.proofs.UpdateLemmas.Summaries.{fire_laws}
use Rattle.asm_state.proofs.UpdateLemmas.Updates.{test_laws}
use Rattle.asm_updates.specs.code.SummaryRanges.{SummaryRanges}
use Rattle.asm_updates.specs.code.Faults.{fault_of}
use Rattle.asm_updates.specs.code.Stands.{Stands}
use Rattle.asm_updates.specs.declared.fault.Fault.{Fault as NumberedFault}
use Rattle.asm_meaning.specs.Yields.{Path, Result, Gives, Exhausted, at, after}
use Rattle.asm_explore.specs.declared.outcomes.listed_outcome.RuleResult.TheVariants as answer
use Rattle.asm_explore.specs.declared.outcomes.listed_outcome.Choice.{Choice}
use Rattle.asm_explore.specs.declared.outcomes.listed_outcome.ListedOutcome.{ListedOutcome}
use Rattle.asm_explore.specs.declared.outcomes.sequence_outcomes.SequenceOutcomes.{SequenceOutcomes}
use Rattle.asm_explore.specs.declared.updates.Updates.{Updates}
use Rattle.asm_explore.specs.code.OutcomeLists.{Situation, Each, AreTaken, Shows, IsShownBy, Shown, HaveChoices, IsCounted, AreCounted, IsSound, Lists, ListGrows}
use Rattle.asm_explore.specs.code.ChoicePaths.{LieBelow, IsPlacedBefore}
use Rattle.asm_explore.specs.code.ChoiceLists.{choice_lists, AreSomeOf, behind}
use Rattle.asm_explore.specs.code.Sequences.{ends, step_of, BothHave, both_ways, IsTold, Merges, ComesAfter, IsOn, Underway, Ends, SequenceGoesOn, Sorts, IsIn, ComesOf, SortsAll, StepsTo, Next, NextOne, AddsOutcome, Exhausts}
use Rattle.asm_explore.proofs.Elements.{each_self, any_first, any_last}
use Rattle.asm_explore.proofs.OutcomeLemmas.ListLemmas.{each_weaker, each_take_more, any_take_more, grows_each, grows_any, taken_both}
use Rattle.asm_explore.proofs.ChoiceLemmas.ChoicePaths.{before_none, before_part, have_weaker, placed_in}
use Rattle.asm_explore.proofs.OutcomeLemmas.ChoiceLists.{some_nil, ways_take, mapped_take, step_first, step_last, step_kept}

-- ---- results and states

pub after_both : (U V : UpdateSet) (r : Result) → after U (after V r) ≡ after (merge U V) r
after_both U V (Gives W) = ap Gives (sym (merge_laws.group U V W))
after_both U V (Exhausted q) = refl

after_none : (r : Result) → after none r ≡ r
after_none (Gives V) = ap Gives (merge_laws.first_unit V)
after_none (Exhausted q) = refl

pub none_consistent : IsConsistent none
none_consistent = record { one_value = λ l v w h k. absurd (member_laws.of_none l v h); no_stray = λ f v. member_laws.of_none (Stray f) v }

-- ---- whether a part is the last

or_false : (b : Bool) → (b || false) ≡ b
or_false true = refl
or_false false = refl

pub told_faulty : (turns : Bool) (V : UpdateSet) → ¬ (IsConsistent V) → true ≡ ends turns V
told_faulty turns V faulty =
    let no : is_consistent V ≡ false = false_from_ne_true (is_consistent V) (λ is. faulty ((test_laws.consistency V).0 is)) in
    sym (ap (λ b. (turns && is_none V) || not b) no ∙ or-true (turns && is_none V))

pub told_good : (turns : Bool) (V : UpdateSet) (b : Bool) → b ≡ is_none V → IsConsistent V → (turns && b) ≡ ends turns V
told_good turns V b is consistent =
    ap (λ c. turns && c) is
    ∙ sym (ap (λ c. (turns && is_none V) || not c) ((test_laws.consistency V).1 consistent) ∙ or_false (turns && is_none V))

second_false : (a b : Bool) → (a || not b) ≡ false → b ≡ true
second_false a b e = grind arith

pub good_by : (turns : Bool) (V : UpdateSet) → ends turns V ≡ false → IsConsistent V
good_by turns V is = (test_laws.consistency V).0 (second_false (turns && is_none V) (is_consistent V) is)

first_is_fault : (U : UpdateSet) (fault : Fault) → IsFirstFault U fault → ¬ (IsConsistent U)
first_is_fault U (Clash (Proper f vs) r) first consistent = (fault_laws.no_fault U).0 consistent (Proper f vs) first.0.is_faulty
first_is_fault U (Clash (Stray f) r) first consistent = absurd first
first_is_fault U (Outside f) first consistent = (fault_laws.no_fault U).0 consistent (Stray f) first.is_faulty

-- what the code's search for a fault found
pub no_fault_found : (shape : Shape) (part : SummaryRanges) (U : UpdateSet) (found : Option NumberedFault) → is_some found ≡ false
    → IfNone found ((V : UpdateSet) → Stands shape part V → IsConsistent V) → Stands shape part U → IsConsistent U
no_fault_found shape part U None is consistent stands = consistent U stands
no_fault_found shape part U (Some fault) is consistent stands = cc

pub fault_found : (shape : Shape) (part : SummaryRanges) (U : UpdateSet) (found : Option NumberedFault) → is_some found ≡ true
    → IfSome found (λ fault. (V : UpdateSet) → Stands shape part V → IsFirstFault V (fault_of shape fault)) → Stands shape part U → ¬ (IsConsistent U)
fault_found shape part U None is first stands = cc
fault_found shape part U (Some fault) is first stands = first_is_fault U (fault_of shape fault) (first U stands)

-- ---- one outcome of the next part

module _ (shape : Shape) (turns : Bool) (so_far : SummaryRanges) (q joined : ListedOutcome) where
  pub ends_exhausted : (p r : Path) → q.answer ≡ answer.Exhausted p → joined.answer ≡ answer.Exhausted r → r ≡ p → Ends shape turns so_far q joined
  ends_exhausted p r is there same = record {
    shows = λ U x rest stands h.
        subst (λ a. Shows shape a (after U (step_of turns x rest))) (sym there) (here U x rest (subst (λ a. Shows shape a x) is h));
  }
    where
      here : (U : UpdateSet) (x : Result) (rest : UpdateSet → Result) → Shows shape (answer.Exhausted p) x → Shows shape (answer.Exhausted r) (after U (step_of turns x rest))
      here U (Gives V) rest h = absurd h
      here U (Exhausted s) rest h = same ∙ h

  module _ (set whole : Updates) (is : q.answer ≡ answer.Set set) (there : joined.answer ≡ answer.Set whole) (merges : Merges so_far set.set whole.set) where
    pub ends_set : IsTold shape turns set.set true → Ends shape turns so_far q joined
    ends_set told = record {
      shows = λ U x rest stands h.
          subst (λ a. Shows shape a (after U (step_of turns x rest))) (sym there) (here U x rest stands (subst (λ a. Shows shape a x) is h));
    }
      where
        here : (U : UpdateSet) (x : Result) (rest : UpdateSet → Result) → Stands shape so_far U → Shows shape (answer.Set set) x → Shows shape (answer.Set whole) (after U (step_of turns x rest))
        here U (Gives V) rest stands h = subst (λ b. Shows shape (answer.Set whole) (after U (cond b (Gives V) (after V (rest V))))) (told V h) (merges shape U V stands h)
        here U (Exhausted s) rest stands h = absurd h

    pub goes_set : IsTold shape turns set.set false → SequenceGoesOn shape turns so_far q joined
    goes_set told = record { shows = λ U x stands h. here U x stands (subst (λ a. Shows shape a x) is h) }
      where
        here : (U : UpdateSet) (x : Result) → Stands shape so_far U → Shows shape (answer.Set set) x
            → (V : UpdateSet) × (x ≡ Gives V) × (ends turns V ≡ false) × Shows shape joined.answer (Gives (merge U V))
        here U (Gives V) stands h = (V, refl, sym (told V h), subst (λ a. Shows shape a (Gives (merge U V))) (sym there) (merges shape U V stands h))
        here U (Exhausted s) stands h = absurd h

-- ---- where the choices of outcomes so far are

-- none is done, and those that go on have chosen nothing
pub both_begin : (p : Path) (done more : List ListedOutcome) → done ≡ [] → HaveChoices (λ cs. cs ≡ []) more → HaveChoices (IsPlacedBefore p 0) done × HaveChoices (IsPlacedBefore p 0) more
both_begin p done more none empty = (
  subst (HaveChoices (IsPlacedBefore p 0)) (sym none) tt,
  have_weaker (λ cs. cs ≡ []) (IsPlacedBefore p 0) (before_none p 0) more empty,
)

pub both_placed : (p : Path) (k : ℕ) (sorted : SequenceOutcomes) → BothHave (IsPlacedBefore p k) sorted → BothHave (LieBelow p) sorted
both_placed p k sorted both = (
  have_weaker (IsPlacedBefore p k) (LieBelow p) (placed_in p (λ i. i < k)) sorted.done.items both.0,
  have_weaker (IsPlacedBefore p k) (LieBelow p) (placed_in p (λ i. i < k)) sorted.more.items both.1,
)

-- ---- the first outcomes of the next part

module _ (shape : Shape) (turns : Bool) (so_far : SummaryRanges) (choices : List Choice) (part : List ListedOutcome) where
  pub sorted_none : (old : SequenceOutcomes) → SortsAll shape turns so_far choices (take 0 part) old old
  sorted_none old = record {
    done_counted = λ h. h;
    more_counted = λ h. h;
    done_older = λ r h. h;
    more_older = λ r h. h;
    shown = λ U x rest stands h. absurd h;
    done_sound = λ total o hyp each h. h;
    more_sound = λ A total left o hyp each h. h;
    more_from = all_inl (each_self old.more.items);
    placed = λ p k here each h. h;
    chosen = some_nil (both_ways old);
    done_chosen = some_nil (choice_lists old.done.items);
    more_chosen = some_nil (choice_lists old.more.items);
  }
    where
      all_inl : Each (λ f. IsIn f old.more.items) old.more.items → Each (λ f. IsIn f old.more.items ⊎ ComesOf shape turns so_far choices (take 0 part) f) old.more.items
      all_inl = each_weaker (λ f. IsIn f old.more.items) (λ f. IsIn f old.more.items ⊎ ComesOf shape turns so_far choices (take 0 part) f) (λ f h. inl h) old.more.items

  pub sorted_all : (i : ℕ) (old new : SequenceOutcomes) → length part ≤ i → SortsAll shape turns so_far choices (take i part) old new → SortsAll shape turns so_far choices part old new
  sorted_all i old new past = subst (λ fs. SortsAll shape turns so_far choices fs old new) (take_all i part past)

  -- when the sequence ends with the next one, or goes on with it
  module _ (i : ℕ) (q : ListedOutcome) (old mid new : SequenceOutcomes) (low : i < length part) (is : q ≡ get_or part i q) (so_on : SortsAll shape turns so_far choices (take i part) old mid)
      (joined : ListedOutcome) (chosen : joined.choices ≡ choices ++ q.choices) (counted : IsCounted (count_of shape) joined.answer) where
    in_last : IsIn q (take (i + 1) part)
    in_last = subst (IsIn q) (sym (take_more part i q low)) (any_last (λ g. g ≡ q) (take i part) (get_or part i q ∷ []) (inl (sym is)))

    in_first : (f : ListedOutcome) → IsIn f (take i part) → IsIn f (take (i + 1) part)
    in_first f h = subst (IsIn f) (sym (take_more part i q low)) (any_first (λ g. g ≡ f) (take i part) (get_or part i q ∷ []) h)

    still_from : (f : ListedOutcome) → IsIn f old.more.items ⊎ ComesOf shape turns so_far choices (take i part) f → IsIn f old.more.items ⊎ ComesOf shape turns so_far choices (take (i + 1) part) f
    still_from f (inl h) = inl h
    still_from f (inr h) = inr (record { one = h.one; among = in_first h.one h.among; chosen = h.chosen; goes_on = h.goes_on })

    from_before : Each (λ f. IsIn f old.more.items ⊎ ComesOf shape turns so_far choices (take (i + 1) part) f) mid.more.items
    from_before =
        each_weaker (λ f. IsIn f old.more.items ⊎ ComesOf shape turns so_far choices (take i part) f) (λ f. IsIn f old.more.items ⊎ ComesOf shape turns so_far choices (take (i + 1) part) f)
        still_from mid.more.items so_on.more_from

    with_end : Ends shape turns so_far q joined → ListGrows mid.done.items joined new.done.items → new.more.items ≡ mid.more.items → SortsAll shape turns so_far choices (take (i + 1) part) old new
    with_end last grows same = record {
      done_counted = λ h. grows_each (λ f. IsCounted (count_of shape) f.answer) mid.done.items new.done.items joined grows (so_on.done_counted h) counted;
      more_counted = λ h. subst (AreCounted (count_of shape)) (sym same) (so_on.more_counted h);
      done_older = λ r h. grows_any (λ f. Shows shape f.answer r) mid.done.items new.done.items joined grows (so_on.done_older r h);
      more_older = λ r h. subst (λ fs. Shown shape fs r) (sym same) (so_on.more_older r h);
      shown = λ U x rest stands h. next U x rest stands (any_take_more (λ f. Shows shape f.answer x) part i q low is h);
      done_sound = λ total o hyp each h.
          let parts = each_take_more (IsSound shape o) part i q low is each in
          grows_each (IsSound shape total) mid.done.items new.done.items joined grows (so_on.done_sound total o hyp parts.0 h)
          (λ s taken.
          let halves = taken_both s joined.choices choices q.choices chosen taken in
          let on = hyp s halves.0 in
          subst (Shows shape joined.answer) (sym on.3) (last.shows on.0 (o s) on.1 on.2 (parts.1 s halves.1)));
      more_sound = λ A total left o hyp each h.
          let parts = each_take_more (IsSound shape o) part i q low is each in
          subst (Each (IsOn shape A total left)) (sym same) (so_on.more_sound A total left o hyp parts.0 h);
      more_from = subst (Each (λ f. IsIn f old.more.items ⊎ ComesOf shape turns so_far choices (take (i + 1) part) f)) (sym same) from_before;
      placed = λ p k here each h.
          let parts = each_take_more (λ f. LieBelow (at p k) f.choices) part i q low is each in
          let both = so_on.placed p k here parts.0 h in (
            grows_each (λ f. IsPlacedBefore p (k + 1) f.choices) mid.done.items new.done.items joined grows both.0
                (subst (IsPlacedBefore p (k + 1)) (sym chosen) (before_part p k choices q.choices here parts.1)),
            subst (HaveChoices (IsPlacedBefore p (k + 1))) (sym same) both.1,
          );
      chosen = subst (λ fs. AreSomeOf (choice_lists new.done.items ++ choice_lists fs) (both_ways old ++ behind choices (choice_lists (take (i + 1) part)))) (sym same)
          (step_first (choice_lists mid.more.items) (both_ways old) (behind choices (choice_lists (take i part))) (behind choices (choice_lists (take (i + 1) part)))
          mid.done.items new.done.items joined grows (choices ++ q.choices) chosen (mapped_take (λ ds. choices ++ ds) part i q low is) so_on.chosen);
      done_chosen = step_last [] (choice_lists old.done.items) (behind choices (choice_lists (take i part))) (behind choices (choice_lists (take (i + 1) part)))
          mid.done.items new.done.items joined grows (choices ++ q.choices) chosen (mapped_take (λ ds. choices ++ ds) part i q low is) so_on.done_chosen;
      more_chosen = step_kept (choice_lists old.more.items) (behind choices (choice_lists (take i part))) (behind choices (choice_lists (take (i + 1) part)))
          mid.more.items new.more.items (choices ++ q.choices) same (mapped_take (λ ds. choices ++ ds) part i q low is) so_on.more_chosen;
    }
      where
        older : (U : UpdateSet) (x : Result) (rest : UpdateSet → Result)
            → Shown shape mid.done.items (after U (step_of turns x rest)) ⊎ ((V : UpdateSet) × (x ≡ Gives V) × (ends turns V ≡ false) × Shown shape mid.more.items (Gives (merge U V)))
            → Shown shape new.done.items (after U (step_of turns x rest)) ⊎ ((V : UpdateSet) × (x ≡ Gives V) × (ends turns V ≡ false) × Shown shape new.more.items (Gives (merge U V)))
        older U x rest (inl h) = inl (grows_any (λ f. Shows shape f.answer (after U (step_of turns x rest))) mid.done.items new.done.items joined grows h)
        older U x rest (inr h) = inr (h.0, h.1, h.2, subst (λ fs. Shown shape fs (Gives (merge U h.0))) (sym same) h.3)

        next : (U : UpdateSet) (x : Result) (rest : UpdateSet → Result) → Stands shape so_far U → Shown shape (take i part) x ⊎ Shows shape q.answer x
            → Shown shape new.done.items (after U (step_of turns x rest)) ⊎ ((V : UpdateSet) × (x ≡ Gives V) × (ends turns V ≡ false) × Shown shape new.more.items (Gives (merge U V)))
        next U x rest stands (inl h) = older U x rest (so_on.shown U x rest stands h)
        next U x rest stands (inr h) = inl (grows.shown shape (after U (step_of turns x rest)) (last.shows U x rest stands h))

    with_more : SequenceGoesOn shape turns so_far q joined → ListGrows mid.more.items joined new.more.items → new.done.items ≡ mid.done.items → SortsAll shape turns so_far choices (take (i + 1) part) old new
    with_more on grows same = record {
      done_counted = λ h. subst (AreCounted (count_of shape)) (sym same) (so_on.done_counted h);
      more_counted = λ h. grows_each (λ f. IsCounted (count_of shape) f.answer) mid.more.items new.more.items joined grows (so_on.more_counted h) counted;
      done_older = λ r h. subst (λ fs. Shown shape fs r) (sym same) (so_on.done_older r h);
      more_older = λ r h. grows_any (λ f. Shows shape f.answer r) mid.more.items new.more.items joined grows (so_on.more_older r h);
      shown = λ U x rest stands h. next U x rest stands (any_take_more (λ f. Shows shape f.answer x) part i q low is h);
      done_sound = λ total o hyp each h.
          let parts = each_take_more (IsSound shape o) part i q low is each in
          subst (Each (IsSound shape total)) (sym same) (so_on.done_sound total o hyp parts.0 h);
      more_sound = λ A total left o hyp each h.
          let parts = each_take_more (IsSound shape o) part i q low is each in
          grows_each (IsOn shape A total left) mid.more.items new.more.items joined grows (so_on.more_sound A total left o hyp parts.0 h)
          (λ s taken.
          let halves = taken_both s joined.choices choices q.choices chosen taken in
          let here = hyp s halves.0 in
          let goes = on.shows here.0 (o s) here.1 (parts.1 s halves.1) in
          (merge here.0 goes.0, goes.3, here.2 goes.0 goes.1 goes.2));
      more_from = grows_each (λ f. IsIn f old.more.items ⊎ ComesOf shape turns so_far choices (take (i + 1) part) f) mid.more.items new.more.items joined grows from_before
          (inr (record { one = q; among = in_last; chosen = chosen; goes_on = on }));
      placed = λ p k here each h.
          let parts = each_take_more (λ f. LieBelow (at p k) f.choices) part i q low is each in
          let both = so_on.placed p k here parts.0 h in (
            subst (HaveChoices (IsPlacedBefore p (k + 1))) (sym same) both.0,
            grows_each (λ f. IsPlacedBefore p (k + 1) f.choices) mid.more.items new.more.items joined grows both.1
                (subst (IsPlacedBefore p (k + 1)) (sym chosen) (before_part p k choices q.choices here parts.1)),
          );
      chosen = subst (λ fs. AreSomeOf (choice_lists fs ++ choice_lists new.more.items) (both_ways old ++ behind choices (choice_lists (take (i + 1) part)))) (sym same)
          (step_last (choice_lists mid.done.items) (both_ways old) (behind choices (choice_lists (take i part))) (behind choices (choice_lists (take (i + 1) part)))
          mid.more.items new.more.items joined grows (choices ++ q.choices) chosen (mapped_take (λ ds. choices ++ ds) part i q low is) so_on.chosen);
      done_chosen = step_kept (choice_lists old.done.items) (behind choices (choice_lists (take i part))) (behind choices (choice_lists (take (i + 1) part)))
          mid.done.items new.done.items (choices ++ q.choices) same (mapped_take (λ ds. choices ++ ds) part i q low is) so_on.done_chosen;
      more_chosen = step_last [] (choice_lists old.more.items) (behind choices (choice_lists (take i part))) (behind choices (choice_lists (take (i + 1) part)))
          mid.more.items new.more.items joined grows (choices ++ q.choices) chosen (mapped_take (λ ds. choices ++ ds) part i q low is) so_on.more_chosen;
    }
      where
        older : (U : UpdateSet) (x : Result) (rest : UpdateSet → Result)
            → Shown shape mid.done.items (after U (step_of turns x rest)) ⊎ ((V : UpdateSet) × (x ≡ Gives V) × (ends turns V ≡ false) × Shown shape mid.more.items (Gives (merge U V)))
            → Shown shape new.done.items (after U (step_of turns x rest)) ⊎ ((V : UpdateSet) × (x ≡ Gives V) × (ends turns V ≡ false) × Shown shape new.more.items (Gives (merge U V)))
        older U x rest (inl h) = inl (subst (λ fs. Shown shape fs (after U (step_of turns x rest))) (sym same) h)
        older U x rest (inr h) = inr (h.0, h.1, h.2, grows_any (λ f. Shows shape f.answer (Gives (merge U h.0))) mid.more.items new.more.items joined grows h.3)

        next : (U : UpdateSet) (x : Result) (rest : UpdateSet → Result) → Stands shape so_far U → Shown shape (take i part) x ⊎ Shows shape q.answer x
            → Shown shape new.done.items (after U (step_of turns x rest)) ⊎ ((V : UpdateSet) × (x ≡ Gives V) × (ends turns V ≡ false) × Shown shape new.more.items (Gives (merge U V)))
        next U x rest stands (inl h) = older U x rest (so_on.shown U x rest stands h)
        next U x rest stands (inr h) =
            let goes = on.shows U x stands h in
            inr (goes.0, goes.1, goes.2, grows.shown shape (Gives (merge U goes.0)) goes.3)

  pub sorted_more : (i : ℕ) (q : ListedOutcome) (old mid new : SequenceOutcomes) → i < length part → q ≡ get_or part i q
      → Sorts shape turns so_far choices q mid new → SortsAll shape turns so_far choices (take i part) old mid → SortsAll shape turns so_far choices (take (i + 1) part) old new
  sorted_more i q old mid new low is one so_on = by_way one.went
    where
      by_way : (Ends shape turns so_far q one.joined × ListGrows mid.done.items one.joined new.done.items × (new.more.items ≡ mid.more.items))
          ⊎ (SequenceGoesOn shape turns so_far q one.joined × ListGrows mid.more.items one.joined new.more.items × (new.done.items ≡ mid.done.items))
          → SortsAll shape turns so_far choices (take (i + 1) part) old new
      by_way (inl h) = with_end i q old mid new low is so_on one.joined one.chosen one.counted h.0 h.1 h.2
      by_way (inr h) = with_more i q old mid new low is so_on one.joined one.chosen one.counted h.0 h.1 h.2

-- ---- how one outcome so far goes on

module _ (shape : Shape) (turns : Bool) (A : State) (here : Situation → State → Result) where
  -- after a part whose set V isn't the last, the whole comes after the merge
  comes_after : (total : Situation → Result) (left left_then : Situation → State → Result) → StepsTo turns left here left_then → (s : Situation) (U V : UpdateSet) (B : State)
      → B ≡ fire A U → ComesAfter A total left s U → here s B ≡ Gives V → ends turns V ≡ false → ComesAfter A total left_then s (merge U V)
  comes_after total left left_then steps s U V B is on gives not_last = (
    merge_laws.consistent U V on.0 (good_by turns V not_last),
    on.1 ∙ ap (after U) (steps s (fire A U) ∙ ap (λ x. step_of turns x (λ W. left_then s (fire (fire A U) W))) (ap (here s) (sym is) ∙ gives)
        ∙ ap (λ b. cond b (Gives V) (after V (left_then s (fire (fire A U) V)))) not_last)
        ∙ after_both U V (left_then s (fire (fire A U) V))
        ∙ ap (λ C. after (merge U V) (left_then s C)) (sym (merge_laws.firing A U V)),
  )

  whole_is : (total : Situation → Result) (left left_then : Situation → State → Result) → StepsTo turns left here left_then → (s : Situation) (U : UpdateSet) (B : State)
      → B ≡ fire A U → ComesAfter A total left s U → total s ≡ after U (step_of turns (here s B) (λ W. left_then s (fire (fire A U) W)))
  whole_is total left left_then steps s U B is on =
      on.1 ∙ ap (after U) (steps s (fire A U) ∙ ap (λ C. step_of turns (here s C) (λ W. left_then s (fire (fire A U) W))) (sym is))

  pub next_one : (f : ListedOutcome) (so_far : Updates) (part : List ListedOutcome) (old new : SequenceOutcomes) → f.answer ≡ answer.Set so_far
      → (state : State) → ((U : UpdateSet) → Stands shape so_far.set U → IsConsistent U → state ≡ fire A U)
      → Lists shape (λ s. here s state) part → SortsAll shape turns so_far.set f.choices part old new → NextOne shape turns A here f old new
  next_one f so_far part old new is state fired lists sorts = record {
    done_counted = sorts.done_counted;
    more_counted = sorts.more_counted;
    done_older = sorts.done_older;
    more_older = sorts.more_older;
    shown = λ total left left_then steps s U h on.
        let stands : Stands shape so_far.set U = subst (λ a. Shows shape a (Gives U)) is h in
        go_on total left left_then steps s U on (fired U stands on.0)
        (sorts.shown U (here s state) (λ W. left_then s (fire (fire A U) W)) stands (lists.complete s));
    done_sound = λ total left left_then steps each h.
        sorts.done_sound total (λ s. here s state)
        (λ s taken.
        let on = each s taken in
        let stands : Stands shape so_far.set on.0 = subst (λ a. Shows shape a (Gives on.0)) is on.1 in
        (on.0, λ W. left_then s (fire (fire A on.0) W), stands, whole_is total left left_then steps s on.0 state (fired on.0 stands on.2.0) on.2))
        lists.sound h;
    more_sound = λ total left left_then steps each h.
        sorts.more_sound A total left_then (λ s. here s state)
        (λ s taken.
        let on = each s taken in
        let stands : Stands shape so_far.set on.0 = subst (λ a. Shows shape a (Gives on.0)) is on.1 in
        (on.0, stands, λ V gives not_last. comes_after total left left_then steps s on.0 V state (fired on.0 stands on.2.0) on.2 gives not_last))
        lists.sound h;
  }
    where
      go_on : (total : Situation → Result) (left left_then : Situation → State → Result) → StepsTo turns left here left_then → (s : Situation) (U : UpdateSet)
          → ComesAfter A total left s U → state ≡ fire A U
          → Shown shape new.done.items (after U (step_of turns (here s state) (λ W. left_then s (fire (fire A U) W))))
          ⊎ ((V : UpdateSet) × (here s state ≡ Gives V) × (ends turns V ≡ false) × Shown shape new.more.items (Gives (merge U V)))
          → Shown shape new.done.items (total s) ⊎ ((W : UpdateSet) × Shown shape new.more.items (Gives W) × ComesAfter A total left_then s W)
      go_on total left left_then steps s U on same (inl h) =
          inl (subst (Shown shape new.done.items) (sym (whole_is total left left_then steps s U state same on)) h)
      go_on total left left_then steps s U on same (inr h) =
          inr (merge U h.0, h.3, comes_after total left left_then steps s U h.0 state same on h.1 h.2)

  -- one that is exhausted isn't there
  pub next_nothing : (f : ListedOutcome) (p : Path) (old : SequenceOutcomes) → f.answer ≡ answer.Exhausted p → NextOne shape turns A here f old old
  next_nothing f p old is = record {
    done_counted = λ h. h;
    more_counted = λ h. h;
    done_older = λ r h. h;
    more_older = λ r h. h;
    shown = λ total left left_then steps s U h on. absurd (subst (λ a. Shows shape a (Gives U)) is h);
    done_sound = λ total left left_then steps each h. h;
    more_sound = λ total left left_then steps each h. h;
  }

  -- ---- how the first of them go on

  module _ (front : List ListedOutcome) where
    pub next_none : (old : List ListedOutcome) (new : SequenceOutcomes) → new.done.items ≡ old → new.more.items ≡ [] → Next shape turns A here (take 0 front) old new
    next_none old new same empty = record {
      done_counted = subst (AreCounted (count_of shape)) (sym same);
      more_counted = subst (AreCounted (count_of shape)) (sym empty) tt;
      older = λ r. subst (λ fs. Shown shape fs r) (sym same);
      shown = λ total left left_then steps s U h on. absurd h;
      done_sound = λ total left left_then steps each. subst (Each (IsSound shape total)) (sym same);
      more_sound = λ total left left_then steps each. subst (Each (IsOn shape A total left_then)) (sym empty) tt;
    }

    pub next_more : (i : ℕ) (f : ListedOutcome) (old : List ListedOutcome) (mid new : SequenceOutcomes) → i < length front → f ≡ get_or front i f
        → NextOne shape turns A here f mid new → Next shape turns A here (take i front) old mid → Next shape turns A here (take (i + 1) front) old new
    next_more i f old mid new low is one so_on = record {
      done_counted = λ h. one.done_counted (so_on.done_counted h);
      more_counted = one.more_counted so_on.more_counted;
      older = λ r h. one.done_older r (so_on.older r h);
      shown = λ total left left_then steps s U h on.
          by_place total left left_then steps s U on (any_take_more (λ f. Shows shape f.answer (Gives U)) front i f low is h);
      done_sound = λ total left left_then steps each h.
          let parts = each_take_more (IsOn shape A total left) front i f low is each in
          one.done_sound total left left_then steps parts.1 (so_on.done_sound total left left_then steps parts.0 h);
      more_sound = λ total left left_then steps each.
          let parts = each_take_more (IsOn shape A total left) front i f low is each in
          one.more_sound total left left_then steps parts.1 (so_on.more_sound total left left_then steps parts.0);
    }
      where
        older : (total : Situation → Result) (left_then : Situation → State → Result) (s : Situation)
            → Shown shape mid.done.items (total s) ⊎ ((W : UpdateSet) × Shown shape mid.more.items (Gives W) × ComesAfter A total left_then s W)
            → Shown shape new.done.items (total s) ⊎ ((W : UpdateSet) × Shown shape new.more.items (Gives W) × ComesAfter A total left_then s W)
        older total left_then s (inl h) = inl (one.done_older (total s) h)
        older total left_then s (inr h) = inr (h.0, one.more_older (Gives h.0) h.1, h.2)

        by_place : (total : Situation → Result) (left left_then : Situation → State → Result) → StepsTo turns left here left_then → (s : Situation) (U : UpdateSet)
            → ComesAfter A total left s U → Shown shape (take i front) (Gives U) ⊎ Shows shape f.answer (Gives U)
            → Shown shape new.done.items (total s) ⊎ ((W : UpdateSet) × Shown shape new.more.items (Gives W) × ComesAfter A total left_then s W)
        by_place total left left_then steps s U on (inl h) = older total left_then s (so_on.shown total left left_then steps s U h on)
        by_place total left left_then steps s U on (inr h) = one.shown total left left_then steps s U h on

    pub next_all : (i : ℕ) (old : List ListedOutcome) (new : SequenceOutcomes) → length front ≤ i → Next shape turns A here (take i front) old new → Next shape turns A here front old new
    next_all i old new past = subst (λ fs. Next shape turns A here fs old new) (take_all i front past)

  -- ---- from part to part

  pub underway_next : (total : Situation → Result) (left left_then : Situation → State → Result) → StepsTo turns left here left_then → (old new : SequenceOutcomes)
      → Next shape turns A here old.more.items old.done.items new → Underway shape A total left old.done.items old.more.items
      → Underway shape A total left_then new.done.items new.more.items
  underway_next total left left_then steps old new next under = record {
    done_counted = next.done_counted under.done_counted;
    front_counted = next.more_counted;
    complete = λ s. by_place s (under.complete s);
    done_sound = next.done_sound total left left_then steps under.front_sound under.done_sound;
    front_sound = next.more_sound total left left_then steps under.front_sound;
  }
    where
      by_place : (s : Situation) → Shown shape old.done.items (total s) ⊎ ((U : UpdateSet) × Shown shape old.more.items (Gives U) × ComesAfter A total left s U)
          → Shown shape new.done.items (total s) ⊎ ((U : UpdateSet) × Shown shape new.more.items (Gives U) × ComesAfter A total left_then s U)
      by_place s (inl h) = inl (next.older (total s) h)
      by_place s (inr h) = next.shown total left left_then steps s h.0 h.1 h.2

-- ---- the end: nothing is left

module _ (more : List ListedOutcome) where
  pub adds_none : (old : List ListedOutcome) → AddsOutcome old (take 0 more) old
  adds_none old = record { counted = λ n h g. h; older = λ shape r h. h; shown = λ shape r h. absurd h; sound = λ shape o h g. h; placed = λ q h g. h; chosen = some_nil (choice_lists old) }

  pub adds_more : (i : ℕ) (f one : ListedOutcome) (old mid new : List ListedOutcome) → i < length more → f ≡ get_or more i f
      → one.choices ≡ f.choices → ((n : ℕ) → IsCounted n f.answer → IsCounted n one.answer) → IsShownBy f.answer one.answer → ListGrows mid one new → AddsOutcome old (take i more) mid → AddsOutcome old (take (i + 1) more) new
  adds_more i f one old mid new low is chosen counts shows grows so_on = record {
    counted = λ n h g.
        let parts = each_take_more (λ f. IsCounted n f.answer) more i f low is g in
        grows_each (λ f. IsCounted n f.answer) mid new one grows (so_on.counted n h parts.0) (counts n parts.1);
    older = λ shape r h. grows_any (λ f. Shows shape f.answer r) mid new one grows (so_on.older shape r h);
    shown = λ shape r h. next shape r (any_take_more (λ f. Shows shape f.answer r) more i f low is h);
    sound = λ shape o h g.
        let parts = each_take_more (IsSound shape o) more i f low is g in
        grows_each (IsSound shape o) mid new one grows (so_on.sound shape o h parts.0)
        (λ s taken. shows shape (o s) (parts.1 s (subst (AreTaken s) chosen taken)));
    placed = λ q h g.
        let parts = each_take_more (λ f. LieBelow q f.choices) more i f low is g in
        grows_each (λ f. LieBelow q f.choices) mid new one grows (so_on.placed q h parts.0) (subst (LieBelow q) (sym chosen) parts.1);
    chosen = step_last [] (choice_lists old) (choice_lists (take i more)) (choice_lists (take (i + 1) more)) mid new one grows f.choices chosen (ways_take more i f low is) so_on.chosen;
  }
    where
      next : (shape : Shape) (r : Result) → Shown shape (take i more) r ⊎ Shows shape f.answer r → Shown shape new r
      next shape r (inl h) = grows_any (λ f. Shows shape f.answer r) mid new one grows (so_on.shown shape r h)
      next shape r (inr h) = grows.shown shape r (shows shape r h)

  pub adds_all : (i : ℕ) (old new : List ListedOutcome) → length more ≤ i → AddsOutcome old (take i more) new → AddsOutcome old more new
  adds_all i old new past = subst (λ fs. AddsOutcome old fs new) (take_all i more past)

pub closed : (shape : Shape) (A : State) (total : Situation → Result) (left : Situation → State → Result) → ((s : Situation) (B : State) → left s B ≡ Gives none)
    → (old more new : List ListedOutcome) → Underway shape A total left old more → AddsOutcome old more new → Lists shape total new
closed shape A total left empty old more new under adds = record {
  counted = adds.counted (count_of shape) under.done_counted under.front_counted;
  complete = λ s. by_place s (under.complete s);
  sound = adds.sound shape total under.done_sound (each_weaker (IsOn shape A total left) (IsSound shape total) is_sound more under.front_sound);
}
  where
    whole : (s : Situation) (U : UpdateSet) → ComesAfter A total left s U → Gives U ≡ total s
    whole s U on = sym (on.1 ∙ ap (after U) (empty s (fire A U)) ∙ ap Gives (merge_laws.last_unit U))

    by_place : (s : Situation) → Shown shape old (total s) ⊎ ((U : UpdateSet) × Shown shape more (Gives U) × ComesAfter A total left s U) → Shown shape new (total s)
    by_place s (inl h) = adds.older shape (total s) h
    by_place s (inr h) = adds.shown shape (total s) (subst (Shown shape more) (whole s h.0 h.2) h.1)

    is_sound : (f : ListedOutcome) → IsOn shape A total left f → IsSound shape total f
    is_sound f on s taken = let here = on s taken in subst (Shows shape f.answer) (whole s here.0 here.2) here.1

-- ---- the end: no turn is left

module _ (p : Path) (more : List ListedOutcome) where
  pub exhausts_none : (old : List ListedOutcome) → Exhausts p old (take 0 more) old
  exhausts_none old = record { counted = λ n h. h; older = λ shape r h. h; shown = λ shape r h. absurd h; sound = λ shape o h g. g; placed = λ q h g. h; chosen = some_nil (choice_lists old) }

  pub exhausts_more : (i : ℕ) (f one : ListedOutcome) (old mid new : List ListedOutcome) → i < length more → f ≡ get_or more i f
      → one.choices ≡ f.choices → one.answer ≡ answer.Exhausted p → ListGrows mid one new → Exhausts p old (take i more) mid → Exhausts p old (take (i + 1) more) new
  exhausts_more i f one old mid new low is chosen same grows so_on = record {
    counted = λ n h. grows_each (λ f. IsCounted n f.answer) mid new one grows (so_on.counted n h) (subst (IsCounted n) (sym same) tt);
    older = λ shape r h. grows_any (λ f. Shows shape f.answer r) mid new one grows (so_on.older shape r h);
    shown = λ shape r h. next shape r (any_take_more (λ f. Shows shape f.answer r) more i f low is h);
    sound = λ shape o h g.
        let parts = each_take_more (λ f. (s : Situation) → AreTaken s f.choices → o s ≡ Exhausted p) more i f low is h in
        grows_each (IsSound shape o) mid new one grows (so_on.sound shape o parts.0 g)
        (λ s taken. subst (λ r. Shows shape one.answer r) (sym (parts.1 s (subst (AreTaken s) chosen taken))) (at_end shape));
    placed = λ q h g.
        let parts = each_take_more (λ f. LieBelow q f.choices) more i f low is g in
        grows_each (λ f. LieBelow q f.choices) mid new one grows (so_on.placed q h parts.0) (subst (LieBelow q) (sym chosen) parts.1);
    chosen = step_last [] (choice_lists old) (choice_lists (take i more)) (choice_lists (take (i + 1) more)) mid new one grows f.choices chosen (ways_take more i f low is) so_on.chosen;
  }
    where
      at_end : (shape : Shape) → Shows shape one.answer (Exhausted p)
      at_end shape = subst (λ a. Shows shape a (Exhausted p)) (sym same) refl

      next : (shape : Shape) (r : Result) → Shown shape (take i more) r ⊎ Shows shape f.answer r → Shown shape new (Exhausted p)
      next shape r (inl h) = grows_any (λ f. Shows shape f.answer (Exhausted p)) mid new one grows (so_on.shown shape r h)
      next shape r (inr h) = grows.shown shape (Exhausted p) (at_end shape)

  pub exhausts_all : (i : ℕ) (old new : List ListedOutcome) → length more ≤ i → Exhausts p old (take i more) new → Exhausts p old more new
  exhausts_all i old new past = subst (λ fs. Exhausts p old fs new) (take_all i more past)

pub all_exhausted : (shape : Shape) (A : State) (total : Situation → Result) (left : Situation → State → Result) (p : Path) → ((s : Situation) (B : State) → left s B ≡ Exhausted p)
    → (old more new : List ListedOutcome) → Underway shape A total left old more → Exhausts p old more new → Lists shape total new
all_exhausted shape A total left p stops old more new under ends = record {
  counted = ends.counted (count_of shape) under.done_counted;
  complete = λ s. by_place s (under.complete s);
  sound = ends.sound shape total
      (each_weaker (IsOn shape A total left) (λ f. (s : Situation) → AreTaken s f.choices → total s ≡ Exhausted p) (λ f on s taken. let here = on s taken in whole s here.0 here.2) more under.front_sound)
      under.done_sound;
}
  where
    whole : (s : Situation) (U : UpdateSet) → ComesAfter A total left s U → total s ≡ Exhausted p
    whole s U on = on.1 ∙ ap (after U) (stops s (fire A U))

    by_place : (s : Situation) → Shown shape old (total s) ⊎ ((U : UpdateSet) × Shown shape more (Gives U) × ComesAfter A total left s U) → Shown shape new (total s)
    by_place s (inl h) = ends.older shape (total s) h
    by_place s (inr h) = subst (Shown shape new) (sym (whole s h.0 h.2)) (ends.shown shape (Gives h.0) h.1)

-- ---- the beginning, and if none goes on

pub begun : (shape : Shape) (A : State) (total : Situation → Result) (left : Situation → State → Result) → ((s : Situation) → total s ≡ left s A)
    → (front : List ListedOutcome) → Lists shape (λ s. Gives none) front → Underway shape A total left [] front
begun shape A total left same front lists = record {
  done_counted = tt;
  front_counted = lists.counted;
  complete = λ s. inr (none, lists.complete s, at_first s);
  done_sound = tt;
  front_sound = each_weaker (IsSound shape (λ s. Gives none)) (IsOn shape A total left) (λ f sound s taken. (none, sound s taken, at_first s)) front lists.sound;
}
  where
    at_first : (s : Situation) → ComesAfter A total left s none
    at_first s = (none_consistent, same s ∙ sym (after_none (left s (fire A none)) ∙ ap (left s) (fire_laws.of_none A)))

pub ended : (shape : Shape) (A : State) (total : Situation → Result) (left : Situation → State → Result) (done front : List ListedOutcome) → front ≡ []
    → Underway shape A total left done front → Lists shape total done
ended shape A total left done front empty under = record {
  counted = under.done_counted;
  complete = λ s. by_place s (under.complete s);
  sound = under.done_sound;
}
  where
    by_place : (s : Situation) → Shown shape done (total s) ⊎ ((U : UpdateSet) × Shown shape front (Gives U) × ComesAfter A total left s U) → Shown shape done (total s)
    by_place s (inl h) = h
    by_place s (inr h) = absurd (subst (λ fs. Shown shape fs (Gives h.0)) empty h.1)
