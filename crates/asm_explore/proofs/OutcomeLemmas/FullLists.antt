-- Free. Lists that have too many outcomes.
--     too_many_on              what is so at the exit of a `?`
--     crowd_next, crowd_*      one that isn't added to a list at its limit, and those before it,
--                              are more than the limit says
--     longer_*                 the longer list of a sequence
--     *_count                  how many all of them are
use Rattle.std.proofs.Common.{◌≡◌, ℕ, zero, suc, refl, ◌+◌, ◌*◌, ◌<◌, ◌≤◌, max, ltb, ◌⊎◌, inl, inr, List, [], ◌∷◌, ◌++◌, map, length, take, drop, get_or, sym, ap, subst, arith}
use Rattle.std.specs.Prelude.{Result as Returned, Ok, Err, IfErr}
use Rattle.std.specs.Result.{IsErrAnd}
use Rattle.std.proofs.lemmas.Bool.{cases_lt, cond_both, ltb-true, ltb-false}
use Rattle.std.proofs.lemmas.List.{length-append, length-map, length-take-le, take-append-drop}
use Rattle.asm_explore.specs.declared.outcomes.listed_outcome.Choice.{Choice}
use Rattle.asm_explore.specs.declared.outcomes.listed_outcome.ListedOutcome.{ListedOutcome}
use Rattle.asm_explore.specs.declared.outcomes.list_error.ListError.{ListError}
use Rattle.asm_explore.specs.declared.outcomes.list_error.ListError.TheVariants as overflow
use Rattle.asm_explore.specs.declared.outcomes.sequence_outcomes.SequenceOutcomes.{SequenceOutcomes}
use Rattle.asm_explore.specs.code.OverLimit.{IfTooMany}
use Rattle.asm_explore.specs.code.Sequences.{both_ways, longer}
use Rattle.asm_explore.specs.code.ChoiceLists.{choice_lists, AreSomeOf, behind, all_joined, with_choice}
use Rattle.asm_explore.proofs.OutcomeLemmas.ChoiceLists.{some_fewer, joined_append, joined_take}

-- ---- at an exit

too_many_then : (X Y : Type 0) (e : ListError) → (X → Y) → IfTooMany X e → IfTooMany Y e
too_many_then X Y overflow.Memory f said = tt
too_many_then X Y overflow.TooMany f said = f said

pub too_many_on : {T : Type 0} (X Y : Type 0) (returned : Returned T ListError) (e : ListError) → IsErrAnd returned (λ again. again ≡ e) → (X → Y)
    → IfTooMany X e → IfErr returned (IfTooMany Y)
too_many_on X Y (Ok x) e same f said = tt
too_many_on X Y (Err again) e same f said = subst (IfTooMany Y) (sym same) (too_many_then X Y e f said)

-- ---- how many there are

pub ways_count : (fs : List ListedOutcome) → length (choice_lists fs) ≡ length fs
ways_count fs = length-map fs (λ f. f.choices)

-- one more, after the first of others
crowd_next : (limit i n : ℕ) (mid old us : List (List Choice)) → length us ≡ i → i < n → AreSomeOf mid (old ++ us) → limit ≤ length mid → limit < length old + n
crowd_next limit i n mid old us is low some full = omega (arith, is, low, full, some_fewer mid (old ++ us) some, length-append old us)

taken_count : (fs : List ListedOutcome) (i : ℕ) → i < length fs → length (choice_lists (take i fs)) ≡ i
taken_count fs i low =
    let within : i ≤ length fs = omega (arith, low) in
    omega (arith, ways_count (take i fs), length-take-le i fs within)

module _ (limit : ℕ) (part : List ListedOutcome) (i : ℕ) (low : i < length part) where
  pub crowd_ways : (g : List Choice → List Choice) (mid old : List (List Choice)) → AreSomeOf mid (old ++ map g (choice_lists (take i part))) → limit ≤ length mid
      → limit < length old + length part
  crowd_ways g mid old some full =
      crowd_next limit i (length part) mid old (map g (choice_lists (take i part))) (omega (arith, length-map (choice_lists (take i part)) g, taken_count part i low)) low some full

  pub crowd_found : (g : List Choice → List Choice) (mid old : List ListedOutcome) → AreSomeOf (choice_lists mid) (choice_lists old ++ map g (choice_lists (take i part))) → limit ≤ length mid
      → limit < length old + length part
  crowd_found g mid old some full =
      let more : limit < length (choice_lists old) + length part = crowd_ways g (choice_lists mid) (choice_lists old) some (omega (arith, full, ways_count mid)) in
      omega (arith, more, ways_count old)

  pub crowd_added : (mid old : List ListedOutcome) → AreSomeOf (choice_lists mid) (choice_lists old ++ choice_lists (take i part)) → limit ≤ length mid → limit < length old + length part
  crowd_added mid old some full =
      let more : limit < length (choice_lists old) + length part =
      crowd_next limit i (length part) (choice_lists mid) (choice_lists old) (choice_lists (take i part)) (taken_count part i low) low some (omega (arith, full, ways_count mid)) in
      omega (arith, more, ways_count old)

  -- the longer list of a sequence
  pub crowd_longer : (g : List Choice → List Choice) (mid old : SequenceOutcomes)
      → AreSomeOf (choice_lists mid.done.items) (choice_lists old.done.items ++ map g (choice_lists (take i part)))
      → AreSomeOf (choice_lists mid.more.items) (choice_lists old.more.items ++ map g (choice_lists (take i part)))
      → limit ≤ max (length mid.done.items) (length mid.more.items)
      → limit < max (length old.done.items) (length old.more.items) + length part
  crowd_longer g mid old done more full = by_length (cases_lt (length mid.done.items) (length mid.more.items))
    where
      by_length : (length mid.done.items < length mid.more.items) ⊎ (length mid.more.items ≤ length mid.done.items)
          → limit < max (length old.done.items) (length old.more.items) + length part
      by_length (inl less) =
          let beyond : limit < length old.more.items + length part = crowd_found g mid.more.items old.more.items more (omega (arith, full, less)) in
          omega (arith, beyond)
      by_length (inr least) =
          let beyond : limit < length old.done.items + length part = crowd_found g mid.done.items old.done.items done (omega (arith, full, least)) in
          omega (arith, beyond)

-- ---- each with each

all_of_first : (left right : List (List Choice)) (i : ℕ) → length (all_joined (take i left) right) ≤ length (all_joined left right)
all_of_first left right i =
    omega (
      arith,
      ap (λ us. length (all_joined us right)) (take-append-drop i left),
      ap length (joined_append (take i left) (drop i left) right),
      length-append (all_joined (take i left) right) (all_joined (drop i left) right),
    )

ways_of_first : (fs : List ListedOutcome) (i : ℕ) → choice_lists (take i fs) ≡ take i (choice_lists fs)
ways_of_first [] zero = refl
ways_of_first [] (suc i) = refl
ways_of_first (f ∷ fs) zero = refl
ways_of_first (f ∷ fs) (suc i) = ap (λ us. f.choices ∷ us) (ways_of_first fs i)

pub crowd_joined : (limit : ℕ) (left right found : List ListedOutcome) (i : ℕ) (f : ListedOutcome) → i < length left → f ≡ get_or left i f
    → AreSomeOf (choice_lists found) (all_joined (choice_lists (take i left)) (choice_lists right)) → limit < length found + length right
    → limit < length (all_joined (choice_lists left) (choice_lists right))
crowd_joined limit left right found i f low is some more =
    let next : length (all_joined (choice_lists (take (i + 1) left)) (choice_lists right)) ≡ length (all_joined (choice_lists (take i left)) (choice_lists right)) + length right =
    omega (
      arith,
      ap length (joined_take left (choice_lists right) i f low is),
      length-append (all_joined (choice_lists (take i left)) (choice_lists right)) (behind f.choices (choice_lists right)),
      length-map (choice_lists right) (λ ds. f.choices ++ ds),
      ways_count right,
    ) in
    omega (
      arith,
      more,
      next,
      some_fewer (choice_lists found) (all_joined (choice_lists (take i left)) (choice_lists right)) some,
      ways_count found,
      ap (λ us. length (all_joined us (choice_lists right))) (ways_of_first left (i + 1)),
      all_of_first (choice_lists left) (choice_lists right) (i + 1),
    )

-- ---- what all of them are

pub picked_count : (p : List ℕ) (k : ℕ) (old part : List ListedOutcome) → length (choice_lists old ++ with_choice p k (choice_lists part)) ≡ length old + length part
picked_count p k old part =
    omega (
      arith,
      length-append (choice_lists old) (with_choice p k (choice_lists part)),
      length-map (choice_lists part) (λ cs. cs ++ record { path = p; number = k } ∷ []),
      ways_count old,
      ways_count part,
    )

pub longer_have : (P : List ListedOutcome → Type 0) (sorted : SequenceOutcomes) → P sorted.done.items → P sorted.more.items → P (longer sorted)
longer_have P sorted h g = cond_both (ltb (length sorted.done.items) (length sorted.more.items)) sorted.more.items sorted.done.items P (λ less. g) (λ least. h)

pub longer_count : (sorted : SequenceOutcomes) → length (longer sorted) ≡ max (length sorted.done.items) (length sorted.more.items)
longer_count sorted =
    let n = length sorted.done.items in
    let m = length sorted.more.items in
    cond_both (ltb n m) sorted.more.items sorted.done.items (λ fs. length fs ≡ max n m)
    (λ less. let below : n < m = ltb-true n m less in omega (arith, below))
    (λ least. let above : m ≤ n = ltb-false n m least in omega (arith, above))

-- those of the longer list, and of a part upon a set so far
pub sorted_count : (sorted : SequenceOutcomes) (cs : List Choice) (part : List ListedOutcome) → length (choice_lists (longer sorted) ++ behind cs (choice_lists part)) ≡ length (longer sorted) + length part
sorted_count sorted cs part =
    omega (
      arith,
      length-append (choice_lists (longer sorted)) (behind cs (choice_lists part)),
      length-map (choice_lists part) (λ ds. cs ++ ds),
      ways_count (longer sorted),
      ways_count part,
    )

pub both_count : (sorted : SequenceOutcomes) → length (both_ways sorted) ≡ length sorted.done.items + length sorted.more.items
both_count sorted =
    omega (
      arith,
      length-append (choice_lists sorted.done.items) (choice_lists sorted.more.items),
      ways_count sorted.done.items,
      ways_count sorted.more.items,
    )

joined_count : (left right : List (List Choice)) → length (all_joined left right) ≡ length left * length right
joined_count [] right = omega arith
joined_count (cs ∷ left) right =
    let rest : length (all_joined left right) ≡ length left * length right = joined_count left right in
    omega (arith, rest, length-append (behind cs right) (all_joined left right), length-map right (λ ds. cs ++ ds))

pub beside_count : (left right : List ListedOutcome) → length (all_joined (choice_lists left) (choice_lists right)) ≡ length left * length right
beside_count left right =
    let both : length (all_joined (choice_lists left) (choice_lists right)) ≡ length (choice_lists left) * length (choice_lists right) = joined_count (choice_lists left) (choice_lists right) in
    subst (λ n. length (all_joined (choice_lists left) (choice_lists right)) ≡ n * length right) (ways_count left)
    (subst (λ n. length (all_joined (choice_lists left) (choice_lists right)) ≡ length (choice_lists left) * n) (ways_count right) both)
