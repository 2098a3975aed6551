-- Free. What entries have at each location.
use Rattle.std.proofs.Common.{◌≡◌, ℕ, ◌<◌, ◌≤◌, Bool, true, false, eqb, nat_eq, cond, List, [], ◌∷◌, length, All, Option, Some, None, refl, sym, ap, subst, ◌∙◌, arith, ⊎_elim}
use Rattle.std.proofs.lemmas.Bool.{cases_eq}
use Rattle.std.proofs.lemmas.Bool.Decides.{nat_tests}
use Rattle.std.proofs.lemmas.List.Elements.{All-cons, All-head, All-tail}
use Rattle.std.proofs.lemmas.List.Sorted.{All-permutation, IsNonDecreasingBy-from_sort}
use Rattle.std.proofs.lemmas.Map.Keys.{IsDistinct-head, IsDistinct-tail, IsStrictlyIncreasing-from_distinct}
use Rattle.std.specs.List.{IsDistinct, AllByRecursion}
use Rattle.std.specs.List.Sorted.{IsPermutation, IsSorted, IsStrictlyIncreasing}
use Rattle.std.specs.Map.{keys_of}
use Rattle.std.specs.Ordering.{nat_cmp}
use Rattle.asm_updates.specs.code.IndexedRanges.{put}
use Rattle.asm_state.specs.declared.value.Value.{Value}
use Rattle.asm_state.specs.code.Codes.{code_of}
use Rattle.asm_state.specs.Updates.{Range}
use Rattle.asm_updates.specs.code.SummaryRanges.{NamedRanges, first_range, range, AreRanges}

-- an inserted entry
pub found-put : (es : NamedRanges) (n : ℕ) (b : Value × Value) (k : ℕ) → first_range (put es n b) k ≡ cond (eqb k n) (Some (range b)) (first_range es k)
found-put [] n b k = refl
found-put (e ∷ es) n b k = by_test (eqb n e.0) refl (found-put es n b k)
  where
    by_test : (t : Bool) → eqb n e.0 ≡ t → first_range (put es n b) k ≡ cond (eqb k n) (Some (range b)) (first_range es k) → first_range (cond t ((e.0, b) ∷ es) (e ∷ put es n b)) k ≡ cond (eqb k n) (Some (range b)) (first_range (e ∷ es) k)
    by_test true same rest = let here : n ≡ e.0 = grind (arith, nat_tests) in grind (arith, nat_tests)
    by_test false apart rest = grind (arith, nat_tests)

-- a range has one pair of bounds
pub same_bounds : (a b : Value × Value) → Some (range a) ≡ Some (range b) → a ≡ b
same_bounds a b e =
    let same : range a ≡ range b = cc in
    let low : a.0 ≡ b.0 = ap (λ (r : Range). r.least) same in
    let high : a.1 ≡ b.1 = ap (λ (r : Range). r.greatest) same in
    λ i. (low i, high i)

-- ---- entries one by one

-- what holds of each entry holds of the one that is found
pub All-found : (P : ℕ × (Value × Value) → Type 0) (es : NamedRanges) (n : ℕ) (b : Value × Value) → All P es → first_range es n ≡ Some (range b) → P (n, b)
All-found P [] n b all e = cc
All-found P (x ∷ es) n b all e = by_test (eqb n x.0) refl (All-found P es n b (All-tail P x es all)) e
  where
    by_test : (t : Bool) → eqb n x.0 ≡ t → (first_range es n ≡ Some (range b) → P (n, b)) → cond t (Some (range x.1)) (first_range es n) ≡ Some (range b) → P (n, b)
    by_test true same rest e =
        let at : x.0 ≡ n = grind (arith, nat_tests) in
        let bounds : x.1 ≡ b = same_bounds x.1 b e in
        subst (λ y. P (n, y)) bounds (subst (λ m. P (m, x.1)) at (All-head P x es all))
    by_test false apart rest e = rest e

pub All-put : (P : ℕ × (Value × Value) → Type 0) (es : NamedRanges) (n : ℕ) (b : Value × Value) → All P es → P (n, b) → All P (put es n b)
All-put P [] n b all here = All-cons P (n, b) [] here all
All-put P (e ∷ es) n b all here = by_test (eqb n e.0) refl (All-put P es n b (All-tail P e es all) here)
  where
    by_test : (t : Bool) → eqb n e.0 ≡ t → All P (put es n b) → All P (cond t ((e.0, b) ∷ es) (e ∷ put es n b))
    by_test true same rest = let at : n ≡ e.0 = grind (arith, nat_tests) in All-cons P (e.0, b) es (subst (λ m. P (m, b)) at here) (All-tail P e es all)
    by_test false apart rest = All-cons P e (put es n b) (All-head P e es all) rest

pub AreEntries-put : (count : ℕ) (es : NamedRanges) (n : ℕ) (b : Value × Value) → IsDistinct nat_eq (keys_of (put es n b)) → n < count → code_of b.0 ≤ code_of b.1 → AreRanges count es → AreRanges count (put es n b)
AreEntries-put count es n b unique below le are = record {
  unique = unique;
  in_range = All-put (λ e. e.0 < count) es n b are.in_range below;
  ordered = All-put (λ e. code_of e.1.0 ≤ code_of e.1.1) es n b are.ordered le;
}

pub record IsEntry (count n : ℕ) (b : Value × Value) : Type 0 where
  pub in_range : n < count
  pub ordered : code_of b.0 ≤ code_of b.1

pub AreEntries-head : (count : ℕ) (e : ℕ × (Value × Value)) (es : NamedRanges) → AreRanges count (e ∷ es) → IsEntry count e.0 e.1
AreEntries-head count e es are = record {
  in_range = All-head (λ e. e.0 < count) e es are.in_range;
  ordered = All-head (λ e. code_of e.1.0 ≤ code_of e.1.1) e es are.ordered;
}

pub AreEntries-tail : (count : ℕ) (e : ℕ × (Value × Value)) (es : NamedRanges) → AreRanges count (e ∷ es) → AreRanges count es
AreEntries-tail count e es are = record {
  unique = IsDistinct-tail nat_eq e.0 (keys_of es) are.unique;
  in_range = All-tail (λ e. e.0 < count) e es are.in_range;
  ordered = All-tail (λ e. code_of e.1.0 ≤ code_of e.1.1) e es are.ordered;
}

-- a location that no entry has isn't named
absent : (n : ℕ) (es : NamedRanges) → AllByRecursion (λ m. nat_eq n m ≡ false) (keys_of es) → first_range es n ≡ None
absent n [] all = refl
absent n (e ∷ es) all = rw all.0 (absent n es all.1)

-- the first entry's location has no other entry
pub found-after : (e : ℕ × (Value × Value)) (es : NamedRanges) → IsDistinct nat_eq (keys_of (e ∷ es)) → first_range es e.0 ≡ None
found-after e es unique = absent e.0 es (IsDistinct-head nat_eq e.0 (keys_of es) unique)

pub found-above : (count : ℕ) (es : NamedRanges) (n : ℕ) → All (λ e. e.0 < count) es → count ≤ n → first_range es n ≡ None
found-above count [] n all le = refl
found-above count (e ∷ es) n all le =
    let here : e.0 < count = All-head (λ e. e.0 < count) e es all in
    let rest : first_range es n ≡ None = found-above count es n (All-tail (λ e. e.0 < count) e es all) le in
    let skip : eqb n e.0 ≡ false = grind (arith, nat_tests) in
    rw skip rest

-- one turn of a loop over entries, by what it does to the entry of one location
pub one_more : {A : Type 0} (op : A → Option Range → A) → ((x : A) → op x None ≡ x) →
    (rest left : NamedRanges) (n : ℕ) (b : Value × Value) → rest ≡ (n, b) ∷ left → IsDistinct nat_eq (keys_of rest) →
    (f g : ℕ → A) → ((k : ℕ) → g k ≡ cond (eqb k n) (op (f n) (Some (range b))) (f k)) →
    (k : ℕ) → op (g k) (first_range left k) ≡ op (f k) (first_range rest k)
one_more op none rest left n b e unique f g turn k =
    let after : first_range left n ≡ None = found-after (n, b) left (subst (λ es. IsDistinct nat_eq (keys_of es)) e unique) in
    ap (λ x. op x (first_range left k)) (turn k) ∙ at_or_beside after ∙ ap (λ es. op (f k) (first_range es k)) (sym e)
  where
    at_or_beside : first_range left n ≡ None → op (cond (eqb k n) (op (f n) (Some (range b))) (f k)) (first_range left k) ≡ op (f k) (cond (eqb k n) (Some (range b)) (first_range left k))
    at_or_beside after =
        ⊎_elim
        (λ (same : k ≡ n).
        let yes : eqb k n ≡ true = grind (arith, nat_tests) in
        let gone : first_range left k ≡ None = rw same after in
        rw (yes, gone, none (op (f n) (Some (range b)))) (ap (λ m. op (f m) (Some (range b))) (sym same)))
        (λ (other : k ≡ n → ⊥). let skip : eqb k n ≡ false = grind (arith, nat_tests) in rw skip refl)
        (cases_eq k n)

-- ---- all entries

-- entries in another order
pub AreEntries-permutation : (count : ℕ) (es fs : NamedRanges) → IsPermutation es fs → IsDistinct nat_eq (keys_of fs) → AreRanges count es → AreRanges count fs
AreEntries-permutation count es fs moves unique are = record {
  unique = unique;
  in_range = All-permutation (λ e. e.0 < count) es fs moves are.in_range;
  ordered = All-permutation (λ e. code_of e.1.0 ≤ code_of e.1.1) es fs moves are.ordered;
}

-- locations that are sorted and differ rise
pub rising : (ns : List ℕ) → IsSorted nat_cmp ns → IsDistinct nat_eq ns → IsStrictlyIncreasing ns
rising ns sorted unique = IsStrictlyIncreasing-from_distinct ns (IsNonDecreasingBy-from_sort (λ n. n) ns sorted) unique

-- there is no entry if no location is named
pub none_found : (es : NamedRanges) (r : Bool) → (r ≡ true → length es ≡ 0) × (length es ≡ 0 → r ≡ true) → (r ≡ true → (n : ℕ) → first_range es n ≡ None) × (((n : ℕ) → first_range es n ≡ None) → r ≡ true)
none_found [] r is = (λ yes n. refl, λ none. is.1 refl)
none_found (e ∷ es) r is = (
  λ yes n. absurd (omega (arith, is.0 yes)),
  λ none. let here : first_range (e ∷ es) e.0 ≡ None = none e.0 in grind (arith, nat_tests),
)
