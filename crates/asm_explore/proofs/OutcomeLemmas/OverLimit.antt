-- Free. What a refusal says, and how the outcomes of each kind of rule differ.
--     refuses_many, refuses_on      that there are many; and at the exit of a `?`
--     one_differs, ok_differs       a list with one outcome; those of a part differ in the whole
--     joined_*                      parts beside each other
--     picked_*                      a candidate that is taken, and those before it
--     sorted_*                      the next part, upon a set so far
--     front_*                       the sets so far, while one after the other goes on
--     closed_*                      the end
use Rattle.std.proofs.Common.{Vec, Global, ◌≡◌, ℕ, ◌+◌, ◌<◌, ◌≤◌, inl, inr, List, [], ◌∷◌, ◌++◌, length, drop, get_or, sym, ap, subst, ◌∙◌, arith, append_assoc, append-nil}
use Rattle.std.specs.Prelude.{Result as Returned, Ok, Err, IfOk, IfErr}
use Rattle.std.specs.Result.{IsErrAnd}
use Rattle.std.proofs.lemmas.List.{drop_all, drop_more}
use Rattle.asm_meaning.specs.Yields.{Path, at}
use Rattle.asm_explore.specs.declared.outcomes.listed_outcome.Choice.{Choice}
use Rattle.asm_explore.specs.declared.outcomes.listed_outcome.ListedOutcome.{ListedOutcome}
use Rattle.asm_explore.specs.declared.outcomes.outcomes_error.OutcomesError.{OutcomesError}
use Rattle.asm_explore.specs.declared.outcomes.outcomes_error.OutcomesError.TheVariants as refusal
use Rattle.asm_explore.specs.declared.outcomes.sequence_outcomes.SequenceOutcomes.{SequenceOutcomes}
use Rattle.asm_explore.specs.code.OverLimit.{NamesRule, IsOverLimit, Differ, AreDifferent, AreDifferentFrom, TakesBefore, Counts, Refuses}
use Rattle.asm_explore.specs.code.OutcomeLists.{Each, HaveChoices}
use Rattle.asm_explore.specs.code.Sequences.{BothHave, both_ways, longer, AllDiffer}
use Rattle.asm_explore.specs.code.ChoiceLists.{choice_lists, AreSomeOf, behind, all_joined, with_choice}
use Rattle.asm_explore.proofs.ChoiceLemmas.ChoicesCarried.{each_picked, each_both}
use Rattle.asm_explore.proofs.ChoiceLemmas.DifferentChoices.{different_append, different_parts, different_some, different_above, different_swapped, joined_differ, replaced_differ, picked_differ, picked_before}
use Rattle.asm_explore.proofs.Elements.{each_append, each_first, each_last, each_weaker}
use Rattle.asm_explore.proofs.OutcomeLemmas.ChoiceLists.{some_behind, some_each, each_mapped, have_ways, ways_have, joined_each}
use Rattle.asm_explore.proofs.OutcomeLemmas.FullLists.{ways_count, picked_count, sorted_count, both_count, beside_count, longer_have}

-- ---- the longer list of a sequence

-- with one that is to go on
longer_differs : (p : Path) (one : ListedOutcome) (sorted : SequenceOutcomes) → AllDiffer p (one ∷ []) sorted → AreDifferent p (one.choices ∷ choice_lists (longer sorted))
longer_differs p one sorted h =
    let done = choice_lists sorted.done.items in
    let more = choice_lists sorted.more.items in
    let parts = different_parts p done more h.1 in
    longer_have (λ fs. AreDifferent p (one.choices ∷ choice_lists fs)) sorted
    (each_first (Differ p one.choices) done more h.0, parts.0)
    (each_last (Differ p one.choices) done more h.0, parts.1)

-- ---- that there are many

module _ (limit : ℕ) (R : Path → List Choice → Type 0) where
  pub refuses_many : (p : Path) (ways : List (List Choice)) (first others : ℕ) (r : OutcomesError) → NamesRule p first others r → IsOverLimit limit ways r
      → Counts p first others (R p) (length ways) → AreDifferent p ways → Each (R p) ways → Refuses limit R r
  refuses_many p ways first others refusal.Memory names crowded counts differ each = tt
  refuses_many p ways first others (refusal.TooMany crowd) names crowded counts differ each = record {
    ways = ways;
    more = crowded;
    counts = subst (λ q. Counts q crowd.first crowd.others (R q) (length ways)) (sym names.0)
        (subst (λ n. Counts p n crowd.others (R p) (length ways)) (sym names.1)
        (subst (λ n. Counts p first n (R p) (length ways)) (sym names.2) counts));
    different = subst (λ q. AreDifferent q ways) (sym names.0) differ;
    each = subst (λ q. Each (R q) ways) (sym names.0) each;
  }

  -- the same refusal is returned
  pub refuses_on : {T : Type 0} (returned : Returned T OutcomesError) (e : OutcomesError) → IsErrAnd returned (λ again. again ≡ e) → Refuses limit R e → IfErr returned (Refuses limit R)
  refuses_on (Ok x) e same h = tt
  refuses_on (Err again) e same h = subst (Refuses limit R) (sym same) h

  -- ---- for each kind of list

  pub joined_refuses : (P Q : List Choice → Type 0) (p : Path) (k : ℕ) → ((cs ds : List Choice) → P cs → Q ds → R p (cs ++ ds))
      → ((cs : List Choice) → P cs → R p cs) → ((ds : List Choice) → Q ds → R p ds) → (left right : List ListedOutcome)
      → AreDifferent (at p k) (choice_lists left) → AreDifferent p (choice_lists right) → AreDifferentFrom p (k + 1) (choice_lists right) → HaveChoices P left → HaveChoices Q right
      → (r : OutcomesError) → NamesRule p (length left) (length right) r → IsOverLimit limit (all_joined (choice_lists left) (choice_lists right)) r → Refuses limit R r
  joined_refuses P Q p k both one other left right differ others_differ after_differ h g r names crowded =
      refuses_many p (all_joined (choice_lists left) (choice_lists right)) (length left) (length right) r names crowded
      (inr (
        beside_count left right,
        record {
          number = k;
          part = choice_lists left;
          part_count = ways_count left;
          part_different = differ;
          part_each = each_weaker P (R p) one (choice_lists left) (have_ways P left h);
          after = choice_lists right;
          after_count = ways_count right;
          after_different = after_differ;
          after_each = each_weaker Q (R p) other (choice_lists right) (have_ways Q right g);
        },
      ))
      (joined_differ p k (choice_lists left) (choice_lists right) differ others_differ)
      (joined_each P Q (R p) both (choice_lists left) (choice_lists right) (have_ways P left h) (have_ways Q right g))

  pub picked_refuses : (P : List Choice → Type 0) (p : Path) (k : ℕ) → ((cs : List Choice) → P cs → R p (cs ++ record { path = p; number = k } ∷ [])) → (part old : List ListedOutcome)
      → AreDifferent p (choice_lists old) → HaveChoices (TakesBefore p k) old → AreDifferent (at p 0) (choice_lists part) → HaveChoices P part → HaveChoices (R p) old
      → (r : OutcomesError) → NamesRule p (length part) (length old) r → IsOverLimit limit (choice_lists old ++ with_choice p k (choice_lists part)) r → Refuses limit R r
  picked_refuses P p k own part old differ before part_differs h g r names crowded =
      refuses_many p (choice_lists old ++ with_choice p k (choice_lists part)) (length part) (length old) r names crowded
      (inl (omega (arith, picked_count p k old part)))
      (picked_differ p k (choice_lists old) (choice_lists part) differ (have_ways (TakesBefore p k) old before) part_differs)
      (each_picked P (R p) p k own part old h g)

  pub sorted_refuses : (P : List Choice → Type 0) (p : Path) (k : ℕ) (one : ListedOutcome) → ((ds : List Choice) → P ds → R p (one.choices ++ ds)) → (part : List ListedOutcome) (sorted : SequenceOutcomes)
      → AllDiffer p (one ∷ []) sorted → AreDifferent (at p k) (choice_lists part) → HaveChoices P part → BothHave (R p) sorted
      → (r : OutcomesError) → NamesRule p (length part) (length (longer sorted)) r → IsOverLimit limit (choice_lists (longer sorted) ++ behind one.choices (choice_lists part)) r → Refuses limit R r
  sorted_refuses P p k one own part sorted differ part_differs h both r names crowded =
      refuses_many p (choice_lists (longer sorted) ++ behind one.choices (choice_lists part)) (length part) (length (longer sorted)) r names crowded
      (inl (omega (arith, sorted_count sorted one.choices part)))
      (replaced_differ p k one.choices (choice_lists (longer sorted)) (choice_lists part) (longer_differs p one sorted differ) part_differs)
      (each_append (R p) (choice_lists (longer sorted)) (behind one.choices (choice_lists part))
      (have_ways (R p) (longer sorted) (longer_have (HaveChoices (R p)) sorted both.0 both.1))
      (each_mapped P (R p) (λ ds. one.choices ++ ds) own (choice_lists part) (have_ways P part h)))

  pub closed_refuses : (p : Path) (sorted : SequenceOutcomes) → AllDiffer p [] sorted → BothHave (R p) sorted
      → (r : OutcomesError) → NamesRule p (length sorted.done.items) (length sorted.more.items) r → IsOverLimit limit (both_ways sorted) r → Refuses limit R r
  closed_refuses p sorted differ both r names crowded =
      refuses_many p (both_ways sorted) (length sorted.done.items) (length sorted.more.items) r names crowded (inl (both_count sorted)) differ (each_both (R p) sorted both)

-- ---- that the outcomes differ

module _ (p : Path) where
  -- one outcome alone
  pub one_differs : (fs : List ListedOutcome) → length fs ≤ 1 → AreDifferent p (choice_lists fs)
  one_differs [] low = tt
  one_differs (f ∷ []) low = (tt, tt)
  one_differs (f ∷ g ∷ fs) low = absurd (omega (arith, low))

  -- those of a part differ in the whole
  pub ok_differs : {E : Type 0} (k : ℕ) (r : Returned (Vec ListedOutcome Global) E) → IfOk r (λ fs. AreDifferent (at p k) (choice_lists fs.items))
      → IfOk r (λ fs. AreDifferent p (choice_lists fs.items))
  ok_differs k (Ok fs) h = different_above p k (choice_lists fs.items) h
  ok_differs k (Err e) h = tt

  pub joined_differs : (k : ℕ) (left right found : List ListedOutcome) → AreDifferent (at p k) (choice_lists left) → AreDifferent p (choice_lists right)
      → AreSomeOf (choice_lists found) (all_joined (choice_lists left) (choice_lists right)) → AreDifferent p (choice_lists found)
  joined_differs k left right found h g some =
      different_some p (choice_lists found) (all_joined (choice_lists left) (choice_lists right)) some (joined_differ p k (choice_lists left) (choice_lists right) h g)

  module _ (k : ℕ) (part old new : List ListedOutcome) (some : AreSomeOf (choice_lists new) (choice_lists old ++ with_choice p k (choice_lists part))) (before : HaveChoices (TakesBefore p k) old) where
    pub picked_differs : AreDifferent p (choice_lists old) → AreDifferent (at p 0) (choice_lists part) → AreDifferent p (choice_lists new)
    picked_differs h g =
        different_some p (choice_lists new) (choice_lists old ++ with_choice p k (choice_lists part)) some
        (picked_differ p k (choice_lists old) (choice_lists part) h (have_ways (TakesBefore p k) old before) g)

    -- each takes one before the next
    pub picked_takes : HaveChoices (TakesBefore p (k + 1)) new
    picked_takes =
        ways_have (TakesBefore p (k + 1)) new
        (some_each (TakesBefore p (k + 1)) (choice_lists new) (choice_lists old ++ with_choice p k (choice_lists part)) some
        (picked_before p k (choice_lists old) (choice_lists part) (have_ways (TakesBefore p k) old before)))

  -- ---- one after the other

  pub sorted_differs : (k : ℕ) (one : ListedOutcome) (front part : List ListedOutcome) (old new : SequenceOutcomes) → AllDiffer p (one ∷ front) old → AreDifferent (at p k) (choice_lists part)
      → AreSomeOf (both_ways new) (both_ways old ++ behind one.choices (choice_lists part)) → AllDiffer p front new
  sorted_differs k one front part old new h g some =
      different_some p (choice_lists front ++ both_ways new) (choice_lists front ++ (both_ways old ++ behind one.choices (choice_lists part)))
      (some_behind (choice_lists front) (both_ways new) (both_ways old ++ behind one.choices (choice_lists part)) some)
      (subst (AreDifferent p) (append_assoc (choice_lists front) (both_ways old) (behind one.choices (choice_lists part)))
      (replaced_differ p k one.choices (choice_lists front ++ both_ways old) (choice_lists part) h g))

  -- if one doesn't go on
  pub sorted_without : (one : ListedOutcome) (front : List ListedOutcome) (sorted : SequenceOutcomes) → AllDiffer p (one ∷ front) sorted → AllDiffer p front sorted
  sorted_without one front sorted h = h.1

  -- one of those that are to go on
  pub front_one : (one : ListedOutcome) (front : List ListedOutcome) (sorted : SequenceOutcomes) → AllDiffer p (one ∷ front) sorted → AllDiffer p (one ∷ []) sorted
  front_one one front sorted h =
      let parts = different_parts p (choice_lists (one ∷ front)) (both_ways sorted) h in
      different_append p (one.choices ∷ []) (both_ways sorted) (tt, tt) parts.1 (parts.2.0, tt)

  -- none has gone on
  pub front_begin : (done front : List ListedOutcome) (sorted : SequenceOutcomes) → sorted.done.items ≡ done → sorted.more.items ≡ [] → AreDifferent p (choice_lists done ++ choice_lists front)
      → AllDiffer p (drop 0 front) sorted
  front_begin done front sorted same none h =
      let whole : both_ways sorted ≡ choice_lists done =
      ap (λ fs. choice_lists fs ++ choice_lists sorted.more.items) same ∙ ap (λ fs. choice_lists done ++ choice_lists fs) none ∙ append-nil (choice_lists done) in
      subst (λ ways. AreDifferent p (choice_lists front ++ ways)) (sym whole) (different_swapped p (choice_lists done) (choice_lists front) h)

  -- the next one, and those after it
  pub front_next : (front : List ListedOutcome) (i : ℕ) (one : ListedOutcome) (sorted : SequenceOutcomes) → i < length front → one ≡ get_or front i one
      → AllDiffer p (drop i front) sorted → AllDiffer p (one ∷ drop (i + 1) front) sorted
  front_next front i one sorted low is =
      subst (λ fs. AllDiffer p fs sorted) (drop_more front i one low ∙ ap (λ f. f ∷ drop (i + 1) front) (sym is))

  -- all of them have gone on
  pub front_end : (front : List ListedOutcome) (i : ℕ) (sorted : SequenceOutcomes) → length front ≤ i → AllDiffer p (drop i front) sorted → AllDiffer p [] sorted
  front_end front i sorted past = subst (λ fs. AllDiffer p fs sorted) (drop_all i front past)

  -- ---- the beginning, and the end

  pub begun_differs : (sorted : SequenceOutcomes) → sorted.done.items ≡ [] → length sorted.more.items ≤ 1 → AllDiffer p [] sorted
  begun_differs sorted none one =
      subst (λ fs. AreDifferent p (choice_lists fs ++ choice_lists sorted.more.items)) (sym none) (one_differs sorted.more.items one)

  -- those that are done, if none goes on
  pub done_differs : (sorted : SequenceOutcomes) → AllDiffer p [] sorted → AreDifferent p (choice_lists sorted.done.items)
  done_differs sorted h = (different_parts p (choice_lists sorted.done.items) (choice_lists sorted.more.items) h).0

  pub closed_differs : (sorted : SequenceOutcomes) (found : List ListedOutcome) → AllDiffer p [] sorted → AreSomeOf (choice_lists found) (both_ways sorted) → AreDifferent p (choice_lists found)
  closed_differs sorted found h some = different_some p (choice_lists found) (both_ways sorted) some h
