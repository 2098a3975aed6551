-- Free. Entries as a set holds them: a location's position, and what is put there.
use Rattle.std.proofs.Common.{◌≡◌, ℕ, ◌<◌, ◌≤◌, Bool, true, false, eqb, nat_eq, cond, [], ◌∷◌, ◌++◌, length, map, get_or, set, drop, zero, suc, ◌+◌, ◌-◌, Some, None, refl, sym, ap, subst, ◌∙◌, arith, inl, inr, add-one}
use Rattle.std.proofs.lemmas.Bool.{cases_lt}
use Rattle.std.proofs.lemmas.Bool.Decides.{nat_tests}
use Rattle.std.proofs.lemmas.Map.Keys.{IsDistinct-head, IsDistinct-tail, IsDistinct-cons, IsDistinct-IsPermutation, IsStrictlyIncreasing-from_distinct}
use Rattle.std.proofs.lemmas.List.Sorted.{IsPermutation-map}
use Rattle.std.specs.List.Sorted.{IsPermutation, IsNonDecreasingBy, IsStrictlyIncreasing}
use Rattle.std.proofs.lemmas.Option.{get_or_from_slice_get}
use Rattle.std.specs.Prelude.{slice_get, slice_index}
use Rattle.std.specs.List.{IsDistinct, AllByRecursion}
use Rattle.std.specs.Map.{keys_of}
use Rattle.asm_state.specs.declared.value.Value.{Value}
use Rattle.asm_state.specs.declared.value.Value.TheVariants.{Undef}
use Rattle.asm_updates.specs.code.SummaryRanges.{NamedRanges, first_range, range, AreRanges}
use Rattle.asm_updates.specs.code.IndexedRanges.{put, IsAt, AreIndexed}
use Rattle.asm_updates.proofs.RangesFound.{AreEntries-tail, found-after}

-- ---- what is left of entries

pub AreEntries-drop : (count i : ℕ) (es : NamedRanges) → AreRanges count es → AreRanges count (drop i es)
AreEntries-drop count zero es are = are
AreEntries-drop count (suc i) [] are = are
AreEntries-drop count (suc i) (e ∷ es) are = AreEntries-drop count i es (AreEntries-tail count e es are)

drop_next : (es : NamedRanges) (i : ℕ) (e : ℕ × (Value × Value)) → slice_get es i ≡ Some e → drop i es ≡ e ∷ drop (suc i) es
drop_next [] i e at = cc
drop_next (x ∷ es) zero e at = let same : x ≡ e = cc in ap (λ y. y ∷ es) same
drop_next (x ∷ es) (suc i) e at = drop_next es i e at

pub drop_one : (es : NamedRanges) (i : ℕ) (e : ℕ × (Value × Value)) → slice_get es i ≡ Some e → drop i es ≡ e ∷ drop (i + 1) es
drop_one es i e at = drop_next es i e at ∙ ap (λ j. e ∷ drop j es) (sym (add-one i))

-- ---- a location's position

-- the location of an entry
pub key_at : (es : NamedRanges) (i : ℕ) (e : ℕ × (Value × Value)) → i < length es → e ≡ get_or es i e → get_or (keys_of es) i 0 ≡ e.0
key_at [] i e h at = absurd (omega (arith, h))
key_at (x ∷ es) zero e h at = ap (λ (y : ℕ × (Value × Value)). y.0) (sym at)
key_at (x ∷ es) (suc i) e h at = key_at es i e (omega (arith, h)) at

-- what is found at a location is the entry at its position
pub found-at : (es : NamedRanges) (i n : ℕ) (e : ℕ × (Value × Value)) → IsDistinct nat_eq (keys_of es) → IsAt es i n → e ≡ get_or es i e → first_range es n ≡ Some (range e.1)
found-at [] i n e unique at is = absurd (omega (arith, at.0))
found-at (x ∷ es) zero n e unique at is =
    let yes : eqb n x.0 ≡ true = let same : n ≡ x.0 = sym at.1 in grind (arith, nat_tests) in
    rw yes (ap (λ (y : ℕ × (Value × Value)). Some (range y.1)) (sym is))
found-at (x ∷ es) (suc i) n e unique at is = by_test (eqb n x.0) refl (found-at es i n e (IsDistinct-tail nat_eq x.0 (keys_of es) unique) (omega (arith, at.0), at.1) is)
  where
    by_test : (t : Bool) → eqb n x.0 ≡ t → first_range es n ≡ Some (range e.1) → cond t (Some (range x.1)) (first_range es n) ≡ Some (range e.1)
    by_test true same rest =
        let here : n ≡ x.0 = grind (arith, nat_tests) in
        let none : first_range es n ≡ None = ap (first_range es) here ∙ found-after x es unique in
        cc
    by_test false apart rest = rest

no_later : (es : NamedRanges) (j n : ℕ) → AllByRecursion (λ m. nat_eq n m ≡ false) (keys_of es) → IsAt es j n → ⊥
no_later [] j n all at = absurd (omega (arith, at.0))
no_later (y ∷ es) zero n all at = let same : n ≡ y.0 = sym at.1 in let other : eqb n y.0 ≡ false = all.0 in grind (arith, nat_tests)
no_later (y ∷ es) (suc j) n all at = no_later es j n all.1 (omega (arith, at.0), at.1)

not_twice : (x : ℕ × (Value × Value)) (es : NamedRanges) (j n : ℕ) → IsDistinct nat_eq (keys_of (x ∷ es)) → x.0 ≡ n → suc j < length (x ∷ es) → get_or (keys_of es) j 0 ≡ n → ⊥
not_twice x es j n unique here h there =
    no_later es j n (subst (λ m. AllByRecursion (λ k. nat_eq m k ≡ false) (keys_of es)) here (IsDistinct-head nat_eq x.0 (keys_of es) unique)) (omega (arith, h), there)

-- a location has one position
pub one_position : (es : NamedRanges) (i j n : ℕ) → IsDistinct nat_eq (keys_of es) → IsAt es i n → IsAt es j n → i ≡ j
one_position [] i j n unique at bt = absurd (omega (arith, at.0))
one_position (x ∷ es) zero zero n unique at bt = refl
one_position (x ∷ es) zero (suc j) n unique at bt = absurd (not_twice x es j n unique at.1 bt.0 bt.1)
one_position (x ∷ es) (suc i) zero n unique at bt = absurd (not_twice x es i n unique bt.1 at.0 at.1)
one_position (x ∷ es) (suc i) (suc j) n unique at bt = ap suc (one_position es i j n (IsDistinct-tail nat_eq x.0 (keys_of es) unique) (omega (arith, at.0), at.1) (omega (arith, bt.0), bt.1))

-- a location at which nothing is found is at no position
pub not_at : (es : NamedRanges) (i n : ℕ) → IsDistinct nat_eq (keys_of es) → first_range es n ≡ None → IsAt es i n → ⊥
not_at [] i n unique none at = absurd (omega (arith, at.0))
not_at (x ∷ es) zero n unique none at =
    let yes : eqb n x.0 ≡ true = let same : n ≡ x.0 = sym at.1 in grind (arith, nat_tests) in
    let is : first_range (x ∷ es) n ≡ Some (range x.1) = rw yes refl in
    cc
not_at (x ∷ es) (suc i) n unique none at =
    by_test (eqb n x.0) none (λ rest. not_at es i n (IsDistinct-tail nat_eq x.0 (keys_of es) unique) rest (omega (arith, at.0), at.1))
  where
    by_test : (t : Bool) → cond t (Some (range x.1)) (first_range es n) ≡ None → (first_range es n ≡ None → ⊥) → ⊥
    by_test true none never = cc
    by_test false none never = never none

-- what is found is at some position
pub found_stands : (es : NamedRanges) (n : ℕ) → ((i : ℕ) → IsAt es i n → ⊥) → first_range es n ≡ None
found_stands [] n never = refl
found_stands (x ∷ es) n never = by_test (eqb n x.0) refl (found_stands es n (λ i at. never (suc i) (omega (arith, at.0), at.1)))
  where
    by_test : (t : Bool) → eqb n x.0 ≡ t → first_range es n ≡ None → cond t (Some (range x.1)) (first_range es n) ≡ None
    by_test true same rest = let here : x.0 ≡ n = grind (arith, nat_tests) in absurd (never 0 (omega arith, here))
    by_test false apart rest = rest

-- ---- bounds put at a location

pub put-at : (es : NamedRanges) (i n : ℕ) (b : Value × Value) → IsDistinct nat_eq (keys_of es) → IsAt es i n → set es i (n, b) ≡ put es n b
put-at [] i n b unique at = absurd (omega (arith, at.0))
put-at (x ∷ es) zero n b unique at =
    let yes : eqb n x.0 ≡ true = let same : n ≡ x.0 = sym at.1 in grind (arith, nat_tests) in
    rw yes (ap (λ m. let e : ℕ × (Value × Value) = (m, b) in e ∷ es) (sym at.1))
put-at (x ∷ es) (suc i) n b unique at =
    let skip : eqb n x.0 ≡ false = by_test (eqb n x.0) refl in
    rw skip (ap (λ fs. x ∷ fs) (put-at es i n b (IsDistinct-tail nat_eq x.0 (keys_of es) unique) (omega (arith, at.0), at.1)))
  where
    by_test : (t : Bool) → eqb n x.0 ≡ t → eqb n x.0 ≡ false
    by_test true same = let here : x.0 ≡ n = grind (arith, nat_tests) in absurd (not_twice x es i n unique here at.0 at.1)
    by_test false apart = apart

put-absent : (es : NamedRanges) (n : ℕ) (b : Value × Value) → first_range es n ≡ None → put es n b ≡ es ++ (n, b) ∷ []
put-absent [] n b none = refl
put-absent (e ∷ es) n b none = by_test (put-absent es n b) (eqb n e.0) none
  where
    by_test : (first_range es n ≡ None → put es n b ≡ es ++ (n, b) ∷ []) → (t : Bool) → cond t (Some (range e.1)) (first_range es n) ≡ None → cond t ((e.0, b) ∷ es) (e ∷ put es n b) ≡ e ∷ (es ++ (n, b) ∷ [])
    by_test rest true none = cc
    by_test rest false none = ap (λ fs. e ∷ fs) (rest none)

keys-put : (P : ℕ → Type 0) (es : NamedRanges) (n : ℕ) (b : Value × Value) → AllByRecursion P (keys_of es) → P n → AllByRecursion P (keys_of (put es n b))
keys-put P [] n b all here = (here, tt)
keys-put P (e ∷ es) n b all here = by_test (keys-put P es n b all.1 here) (eqb n e.0)
  where
    by_test : AllByRecursion P (keys_of (put es n b)) → (t : Bool) → AllByRecursion P (keys_of (cond t ((e.0, b) ∷ es) (e ∷ put es n b)))
    by_test rest true = all
    by_test rest false = (all.0, rest)

IsDistinct-put : (es : NamedRanges) (n : ℕ) (b : Value × Value) → IsDistinct nat_eq (keys_of es) → IsDistinct nat_eq (keys_of (put es n b))
IsDistinct-put [] n b unique = IsDistinct-cons nat_eq n [] tt unique
IsDistinct-put (e ∷ es) n b unique = by_test (IsDistinct-put es n b (IsDistinct-tail nat_eq e.0 (keys_of es) unique)) (eqb n e.0) refl
  where
    by_test : IsDistinct nat_eq (keys_of (put es n b)) → (t : Bool) → eqb n e.0 ≡ t → IsDistinct nat_eq (keys_of (cond t ((e.0, b) ∷ es) (e ∷ put es n b)))
    by_test rest true is = unique
    by_test rest false is =
        let apart : eqb e.0 n ≡ false = grind (arith, nat_tests) in
        IsDistinct-cons nat_eq e.0 (keys_of (put es n b))
        (keys-put (λ m. eqb e.0 m ≡ false) es n b (IsDistinct-head nat_eq e.0 (keys_of es) unique) apart)
        rest

-- bounds at a location that is there leave each position
pub keys-put_at : (es : NamedRanges) (i n : ℕ) (b : Value × Value) → IsAt es i n → keys_of (set es i (n, b)) ≡ keys_of es
keys-put_at [] i n b at = absurd (omega (arith, at.0))
keys-put_at (x ∷ es) zero n b at = ap (λ m. m ∷ keys_of es) (sym at.1)
keys-put_at (x ∷ es) (suc i) n b at = ap (λ ns. x.0 ∷ ns) (keys-put_at es i n b (omega (arith, at.0), at.1))

pub length-put_at : (es : NamedRanges) (i : ℕ) (e : ℕ × (Value × Value)) → length (set es i e) ≡ length es
length-put_at [] i e = refl
length-put_at (x ∷ es) zero e = refl
length-put_at (x ∷ es) (suc i) e = ap suc (length-put_at es i e)

pub AreListed-put_at : (es : NamedRanges) (placed : Bool) (at : ℕ → ℕ) (i n : ℕ) (b : Value × Value) → IsAt es i n → AreIndexed es placed at → AreIndexed (set es i (n, b)) placed at
AreListed-put_at es placed at i n b here are = record {
  unique = subst (IsDistinct nat_eq) (sym (keys-put_at es i n b here)) are.unique;
  are_placed = λ is j h.
      ap at (ap (λ ns. get_or ns j 0) (keys-put_at es i n b here)) ∙ are.are_placed is j (omega (arith, h, length-put_at es i (n, b)));
}

-- ---- a location put at the end

pub key-before : (es : NamedRanges) (e : ℕ × (Value × Value)) (i : ℕ) → i < length es → get_or (keys_of (es ++ e ∷ [])) i 0 ≡ get_or (keys_of es) i 0
key-before [] e i h = absurd (omega (arith, h))
key-before (x ∷ es) e zero h = refl
key-before (x ∷ es) e (suc i) h = key-before es e i (omega (arith, h))

pub key-last : (es : NamedRanges) (e : ℕ × (Value × Value)) → get_or (keys_of (es ++ e ∷ [])) (length es) 0 ≡ e.0
key-last [] e = refl
key-last (x ∷ es) e = key-last es e

pub length-last : (es : NamedRanges) (e : ℕ × (Value × Value)) → length (es ++ e ∷ []) ≡ length es + 1
length-last [] e = omega arith
length-last (x ∷ es) e = omega (arith, length-last es e)

-- ---- positions set one after the other

pub placed_more : (es : NamedRanges) (i n : ℕ) (at new : ℕ → ℕ) → IsDistinct nat_eq (keys_of es) → IsAt es i n → ((k : ℕ) → new k ≡ cond (eqb k n) i (at k)) →
    ((j : ℕ) → j < i → at (get_or (keys_of es) j 0) ≡ j) → (j : ℕ) → j < i + 1 → new (get_or (keys_of es) j 0) ≡ j
placed_more es i n at new unique stands turn before j h =
    elim (cases_lt j i) [
      | inl less ↦
          let other : eqb (get_or (keys_of es) j 0) n ≡ false = by_test j less (eqb (get_or (keys_of es) j 0) n) refl in
          turn (get_or (keys_of es) j 0) ∙ rw other (before j less)
      | inr past ↦
          let same : j ≡ i = omega (arith, h) in
          let key : get_or (keys_of es) j 0 ≡ n = ap (λ k. get_or (keys_of es) k 0) same ∙ stands.1 in
          let here : eqb n n ≡ true = grind (arith, nat_tests) in
          ap new key ∙ turn n ∙ rw here (sym same)
    ]
  where
    by_test : (j : ℕ) → j < i → (t : Bool) → eqb (get_or (keys_of es) j 0) n ≡ t → eqb (get_or (keys_of es) j 0) n ≡ false
    by_test j less true same = let there : get_or (keys_of es) j 0 ≡ n = grind (arith, nat_tests) in
        let one : j ≡ i = one_position es j i n unique (omega (arith, less, stands.0), there) stands in absurd (omega (arith, one, less))
    by_test j less false apart = apart

-- what is found at the location of an entry is that entry
pub found-read : (es : NamedRanges) (i : ℕ) (e : ℕ × (Value × Value)) → IsDistinct nat_eq (keys_of es) → i < length es → e ≡ get_or es i e → first_range es e.0 ≡ Some (range e.1)
found-read es i e unique within is = found-at es i e.0 e unique (within, key_at es i e within is) is

pub got-at : (es : NamedRanges) (i n : ℕ) (e : ℕ × (Value × Value)) → IsAt es i n → slice_get es i ≡ Some e → e.0 ≡ n
got-at es i n e at got = sym (key_at es i e at.0 (sym (get_or_from_slice_get es i e e got))) ∙ at.1

-- ---- no entries

unique_none : IsDistinct nat_eq []
unfolding IsDistinct
unique_none = tt

pub AreListed-none : (es : NamedRanges) (placed : Bool) (at : ℕ → ℕ) → es ≡ [] → AreIndexed es placed at
AreListed-none es placed at none = record {
  unique = subst (λ fs. IsDistinct nat_eq (keys_of fs)) (sym none) unique_none;
  are_placed = λ is i h. absurd (omega (arith, h, ap length none));
}

pub AreEntries-none : (count : ℕ) (es : NamedRanges) → es ≡ [] → AreRanges count es
AreEntries-none count es none = subst (AreRanges count) (sym none) (record { unique = unique_none; in_range = λ i d h. absurd (omega (arith, h)); ordered = λ i d h. absurd (omega (arith, h)) })

-- ---- look-ups by position

-- a location that isn't at the position that is set for it isn't there
pub placed_nowhere : (es : NamedRanges) (at : ℕ → ℕ) (n : ℕ) → ((i : ℕ) → i < length es → at (get_or (keys_of es) i 0) ≡ i) → (IsAt es (at n) n → ⊥) → first_range es n ≡ None
placed_nowhere es at n placed never =
    found_stands es n (λ i here.
    let same : at n ≡ i = ap at (sym here.1) ∙ placed i here.0 in
    never (subst (λ j. IsAt es j n) (sym same) here))

-- ---- locations that rise

pub length-keys_of : (es : NamedRanges) → length (keys_of es) ≡ length es
length-keys_of [] = refl
length-keys_of (e ∷ es) = ap suc (length-keys_of es)

pub rise_more : (es : NamedRanges) (i : ℕ) (d e : ℕ × (Value × Value)) → 1 ≤ i → i < length es → d ≡ get_or es (i - 1) d → e ≡ get_or es i e → d.0 < e.0 →
    ((k : ℕ) → k + 1 < i → slice_index (keys_of es) k < slice_index (keys_of es) (k + 1)) → (k : ℕ) → k + 1 < i + 1 → slice_index (keys_of es) k < slice_index (keys_of es) (k + 1)
rise_more es i d e low h first second less before k below =
    elim (cases_lt (k + 1) i) [
      | inl inside ↦ before k inside
      | inr past ↦
          let last : k + 1 ≡ i = omega (arith, below) in
          let former : k ≡ i - 1 = omega (arith, last) in
          let one : slice_index (keys_of es) k ≡ d.0 = ap (slice_index (keys_of es)) former ∙ key_at es (i - 1) d (omega (arith, low, h)) first in
          let two : slice_index (keys_of es) (k + 1) ≡ e.0 = ap (slice_index (keys_of es)) last ∙ key_at es i e h second in
          omega (arith, one, two, less)
    ]

pub distinct_permuted : (es fs : NamedRanges) → IsPermutation es fs → IsDistinct nat_eq (keys_of es) → IsDistinct nat_eq (keys_of fs)
distinct_permuted es fs moves unique =
    subst (IsDistinct nat_eq) (sym (keys_are_mapped fs))
    (IsDistinct-IsPermutation nat_eq (λ x y. grind (arith, nat_tests)) (map (λ e. e.0) es) (map (λ e. e.0) fs) (IsPermutation-map (λ e. e.0) es fs moves) (subst (IsDistinct nat_eq) (keys_are_mapped es) unique))
  where
    keys_are_mapped : (es : NamedRanges) → keys_of es ≡ map (λ e. e.0) es
    keys_are_mapped [] = refl
    keys_are_mapped (e ∷ es) = ap (λ ns. e.0 ∷ ns) (keys_are_mapped es)

pub rising_entries : (es : NamedRanges) → IsNonDecreasingBy (λ e. e.0) es → IsDistinct nat_eq (keys_of es) → IsStrictlyIncreasing (keys_of es)
rising_entries es up unique =
    IsStrictlyIncreasing-from_distinct (keys_of es)
    (λ i j d le h.
    let below : j < length es = omega (arith, h, length-keys_of es) in
    omega (arith, up i j (d, (Undef, Undef)) le below, key-of es i d (omega (arith, le, below)), key-of es j d below))
    unique
  where
    key-of : (es : NamedRanges) (i d : ℕ) → i < length es → get_or (keys_of es) i d ≡ (get_or es i (d, (Undef, Undef))).0
    key-of [] i d h = absurd (omega (arith, h))
    key-of (e ∷ es) zero d h = refl
    key-of (e ∷ es) (suc i) d h = key-of es i d (omega (arith, h))

-- entries with a new location at their end
pub put_last : (es fs : NamedRanges) (n : ℕ) (b : Value × Value) → fs ≡ es ++ (n, b) ∷ [] → first_range es n ≡ None → fs ≡ put es n b
put_last es fs n b is none = is ∙ sym (put-absent es n b none)

pub distinct_last : (es fs : NamedRanges) (n : ℕ) (b : Value × Value) → fs ≡ es ++ (n, b) ∷ [] → first_range es n ≡ None → IsDistinct nat_eq (keys_of es) → IsDistinct nat_eq (keys_of fs)
distinct_last es fs n b is none unique = subst (λ gs. IsDistinct nat_eq (keys_of gs)) (sym (put_last es fs n b is none)) (IsDistinct-put es n b unique)
