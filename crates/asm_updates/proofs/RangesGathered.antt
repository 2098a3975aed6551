-- Free. Entries gathered by their locations, one after the other.
use Rattle.std.proofs.Common.{◌≡◌, ℕ, ◌<◌, ◌≤◌, Bool, true, false, eqb, nat_eq, cond, [], ◌∷◌, ◌++◌, length, get_or, zero, suc, ◌+◌, All, None, refl, sym, ap, subst, ◌∙◌, arith, inl, inr}
use Rattle.std.proofs.lemmas.Bool.{cases_eq, cases_lt, lt-ltb, le-ltb}
use Rattle.std.proofs.lemmas.Bool.Decides.{nat_tests}
use Rattle.std.proofs.lemmas.List.Elements.{All-cons, All-head, All-tail}
use Rattle.std.specs.Prelude.{nat_lt}
use Rattle.std.specs.List.{IsDistinct}
use Rattle.std.specs.List.Sorted.{IsStrictlyIncreasing}
use Rattle.std.specs.Map.{keys_of}
use Rattle.asm_state.specs.declared.value.Value.{Value}
use Rattle.asm_state.specs.code.Codes.{code_of}
use Rattle.asm_updates.specs.code.SummaryRanges.{NamedRanges, first_range, AreRanges}
use Rattle.asm_updates.specs.code.IndexedRanges.{put, IsAt}
use Rattle.asm_updates.proofs.RangesFound.{found-put, found-above, AreEntries-put}
use Rattle.asm_updates.proofs.IndexedRanges.{AreEntries-none, found-at, key_at, put_last, distinct_last, key-before, key-last, length-last, length-keys_of}

-- the entries of all locations below n, and no others
pub record AreGathered (count : ℕ) (es out : NamedRanges) (n : ℕ) : Type 0 where
  pub sound : AreRanges count out
  pub below : All (λ e. e.0 < n) out
  pub rising : IsStrictlyIncreasing (keys_of out)
  pub has : (m : ℕ) → first_range out m ≡ cond (nat_lt m n) (first_range es m) None

pub gathered-none : (count : ℕ) (es out : NamedRanges) → out ≡ [] → AreGathered count es out 0
gathered-none count es out none = record {
  sound = AreEntries-none count out none;
  below = λ i d h. absurd (omega (arith, h, ap length none));
  rising = λ k h. absurd (omega (arith, h, length-keys_of out, ap length none));
  has = λ m.
      let past : nat_lt m 0 ≡ false = le-ltb m 0 (omega arith) in
      rw past (ap (λ fs. first_range fs m) none);
}

-- a location further on, as it is told by one that has no entry or one that has
has-next : (es out new : NamedRanges) (n : ℕ) → ((m : ℕ) → first_range out m ≡ cond (nat_lt m n) (first_range es m) None) → ((m : ℕ) → first_range new m ≡ cond (eqb m n) (first_range es n) (first_range out m)) →
    (m : ℕ) → first_range new m ≡ cond (nat_lt m (n + 1)) (first_range es m) None
has-next es out new n has turn m =
    elim (cases_eq m n) [
      | inl same ↦
          let yes : eqb m n ≡ true = grind (arith, nat_tests) in
          let inside : nat_lt m (n + 1) ≡ true = lt-ltb m (n + 1) (omega (arith, same)) in
          rw inside (turn m ∙ rw yes (ap (first_range es) (sym same)))
      | inr other ↦
          let skip : eqb m n ≡ false = grind (arith, nat_tests) in
          turn m ∙ rw skip (has m ∙ ap (λ t. cond t (first_range es m) None) (sym (same_side other)))
    ]
  where
    same_side : (m ≡ n → ⊥) → nat_lt m (n + 1) ≡ nat_lt m n
    same_side other = elim (cases_lt m n) [
      | inl before ↦ lt-ltb m (n + 1) (omega (arith, before)) ∙ sym (lt-ltb m n before)
      | inr past ↦ le-ltb m (n + 1) (omega (arith, past, other)) ∙ sym (le-ltb m n past)
    ]

absent : (count : ℕ) (es out : NamedRanges) (n : ℕ) → AreGathered count es out n → first_range out n ≡ None
absent count es out n are =
    let past : nat_lt n n ≡ false = le-ltb n n (omega arith) in
    are.has n ∙ rw past refl

pub gathered-skip : (count : ℕ) (es out : NamedRanges) (n : ℕ) → first_range es n ≡ None → AreGathered count es out n → AreGathered count es out (n + 1)
gathered-skip count es out n none are = record {
  sound = are.sound;
  below = λ i d h. omega (arith, are.below i d h);
  rising = are.rising;
  has = has-next es out out n are.has (λ m. by_test m (eqb m n) refl);
}
  where
    by_test : (m : ℕ) (t : Bool) → eqb m n ≡ t → first_range out m ≡ cond t (first_range es n) (first_range out m)
    by_test m true same = let here : m ≡ n = grind (arith, nat_tests) in ap (first_range out) here ∙ absent count es out n are ∙ sym none
    by_test m false apart = refl

-- the last of rising locations is the greatest
rising-last : (out : NamedRanges) (n : ℕ) (b : Value × Value) → All (λ e. e.0 < n) out → IsStrictlyIncreasing (keys_of out) → IsStrictlyIncreasing (keys_of (out ++ (n, b) ∷ []))
rising-last out n b below rising k h =
    let long = length-last out (n, b) in
    let keys = length-keys_of (out ++ (n, b) ∷ []) in
    let first = key-before out (n, b) k (omega (arith, h, long, keys)) in
    elim (cases_lt (k + 1) (length out)) [
      | inl inside ↦ omega (arith, first, key-before out (n, b) (k + 1) inside, rising k (omega (arith, inside, length-keys_of out)))
      | inr past ↦
          let last : k + 1 ≡ length out = omega (arith, h, past, long, keys) in
          let second : get_or (keys_of (out ++ (n, b) ∷ [])) (k + 1) 0 ≡ n = ap (λ j. get_or (keys_of (out ++ (n, b) ∷ [])) j 0) last ∙ key-last out (n, b) in
          omega (arith, first, second, key-below out k (omega (arith, last)) below)
    ]
  where
    key-below : (out : NamedRanges) (k : ℕ) → k < length out → All (λ e. e.0 < n) out → get_or (keys_of out) k 0 < n
    key-below [] k h below = absurd (omega (arith, h))
    key-below (e ∷ out) zero h below = All-head (λ e. e.0 < n) e out below
    key-below (e ∷ out) (suc k) h below = key-below out k (omega (arith, h)) (All-tail (λ e. e.0 < n) e out below)

below-last : (out : NamedRanges) (n : ℕ) (b : Value × Value) → All (λ e. e.0 < n) out → All (λ e. e.0 < n + 1) (out ++ (n, b) ∷ [])
below-last [] n b below = All-cons (λ e. e.0 < n + 1) (n, b) [] (omega arith) (λ i d h. absurd (omega (arith, h)))
below-last (e ∷ out) n b below =
    All-cons (λ e. e.0 < n + 1) e (out ++ (n, b) ∷ []) (omega (arith, All-head (λ e. e.0 < n) e out below)) (below-last out n b (All-tail (λ e. e.0 < n) e out below))

gathered-more : (count : ℕ) (es out : NamedRanges) (i n : ℕ) (b : Value × Value) → AreRanges count es → n < count → IsAt es i n → (n, b) ≡ get_or es i (n, b) →
    AreGathered count es out n → AreGathered count es (out ++ (n, b) ∷ []) (n + 1)
gathered-more count es out i n b entries inside at is are =
    let none = absent count es out n are in
    let new : out ++ (n, b) ∷ [] ≡ put out n b = put_last out (out ++ (n, b) ∷ []) n b refl none in record {
      sound = subst (AreRanges count) (sym new)
          (AreEntries-put count out n b (distinct_put out n b none are.sound.unique) inside (subst (λ (e : ℕ × (Value × Value)). code_of e.1.0 ≤ code_of e.1.1) (sym is) (entries.ordered i (n, b) at.0)) are.sound);
      below = below-last out n b are.below;
      rising = rising-last out n b are.below are.rising;
      has = has-next es out (out ++ (n, b) ∷ []) n are.has (λ m.
          ap (λ fs. first_range fs m) new ∙ found-put out n b m
          ∙ ap (λ r. cond (eqb m n) r (first_range out m)) (sym (found-at es i n (n, b) entries.unique at is)));
    }
  where
    distinct_put : (out : NamedRanges) (n : ℕ) (b : Value × Value) → first_range out n ≡ None → IsDistinct nat_eq (keys_of out) → IsDistinct nat_eq (keys_of (put out n b))
    distinct_put out n b none unique = subst (λ fs. IsDistinct nat_eq (keys_of fs)) (put_last out (out ++ (n, b) ∷ []) n b refl none) (distinct_last out (out ++ (n, b) ∷ []) n b refl none unique)

-- the entry at a location's position, gathered
pub gathered-read : (count : ℕ) (es out new : NamedRanges) (i n : ℕ) (e : ℕ × (Value × Value)) → AreRanges count es → n < count → IsAt es i n → e ≡ get_or es i e → new ≡ out ++ e ∷ [] →
    AreGathered count es out n → AreGathered count es new (n + 1)
gathered-read count es out new i n e entries inside at is last are =
    let same : e.0 ≡ n = sym (key_at es i e at.0 is) ∙ at.1 in
    subst (λ fs. AreGathered count es fs (n + 1)) (sym last)
    (subst (λ m. AreGathered count es (out ++ e ∷ []) (m + 1)) same
    (gathered-more count es out i e.0 e.1 entries (omega (arith, same, inside)) (at.0, key_at es i e at.0 is) is (subst (AreGathered count es out) (sym same) are)))

-- the entries of all locations are those that were there
pub gathered-all : (count : ℕ) (es out : NamedRanges) (n : ℕ) → AreRanges count es → count ≤ n → AreGathered count es out n → (m : ℕ) → first_range out m ≡ first_range es m
gathered-all count es out n entries all are m =
    elim (cases_lt m n) [
      | inl before ↦ let yes : nat_lt m n ≡ true = lt-ltb m n before in are.has m ∙ rw yes refl
      | inr past ↦ let no_more : nat_lt m n ≡ false = le-ltb m n past in are.has m ∙ rw no_more (sym (found-above count es m entries.in_range (omega (arith, all, past))))
    ]
