-- Free. Lines that are made for one number after the other, when a list says what each number has.
use Rattle.std.proofs.Common.{◌≡◌, ℕ, zero, suc, ◌+◌, ◌<◌, ◌≤◌, Bool, true, false, eqb, cond, List, [], ◌∷◌, ◌++◌, length, get_or, All, AllPairs, Option, Some, None, refl, sym, ap, subst, ◌∙◌, ⊎_elim, arith}
use Rattle.std.specs.List.{filter, flat_map, range_with_len}
use Rattle.std.specs.Map.{keys_of}
use Rattle.std.proofs.lemmas.Bool.{cases_eq}
use Rattle.std.proofs.lemmas.Bool.Decides.{nat_tests}
use Rattle.std.proofs.lemmas.List.Elements.{All-head, All-tail}
use Rattle.asm_state.proofs.Lists.{AllPairs-head, AllPairs-tail}
use Rattle.asm_state.specs.declared.value.Value.{Value}
use Rattle.asm_state.specs.Updates.{Range}
use Rattle.asm_updates.specs.code.SummaryRanges.{NamedRanges, first_range, range}

-- ---- lines for the elements of a list, by their positions

module _ {X : Type 0} where
  -- what a filter leaves out has no line
  pub lines_kept : (p : X → Bool) (g : X → List ℕ) (xs : List X) → flat_map g (filter p xs) ≡ flat_map (λ x. cond (p x) (g x) []) xs
  lines_kept p g [] = refl
  lines_kept p g (x ∷ xs) = by_test (p x) (lines_kept p g xs)
    where
      by_test : (b : Bool) → flat_map g (filter p xs) ≡ flat_map (λ x. cond (p x) (g x) []) xs → flat_map g (cond b (x ∷ filter p xs) (filter p xs)) ≡ cond b (g x) [] ++ flat_map (λ x. cond (p x) (g x) []) xs
      by_test true rest = ap (λ w. g x ++ w) rest
      by_test false rest = rest

  pub lines_numbered : (h : X → List ℕ) (k : ℕ → List ℕ) (d : X) (a : ℕ) (xs : List X) → ((n : ℕ) → n < length xs → h (get_or xs n d) ≡ k (a + n))
      → flat_map h xs ≡ flat_map k (range_with_len a (length xs))
  lines_numbered h k d a [] each = refl
  lines_numbered h k d a (x ∷ xs) each =
      let at : a + 0 ≡ a = omega arith in
      let here : h x ≡ k a = each 0 (omega arith) ∙ ap k at in
      let rest : flat_map h xs ≡ flat_map k (range_with_len (a + 1) (length xs)) =
      lines_numbered h k d (a + 1) xs (λ n below. let next : a + suc n ≡ a + 1 + n = omega arith in each (suc n) (omega arith) ∙ ap k next) in
      ap (λ w. w ++ flat_map h xs) here ∙ ap (λ w. k a ++ w) rest

-- ---- lines for the entries of a list, by their keys

-- the keys rise from a number on, and stay below another
abbrev pub RiseWithin : (from end : ℕ) → NamedRanges → Type 0
RiseWithin from end [] = Unit {0}
RiseWithin from end (e ∷ es) = (from ≤ e.0) × (e.0 < end) × RiseWithin (e.0 + 1) end es

pub rise_within : (from end : ℕ) (es : NamedRanges) → All (λ m. from ≤ m) (keys_of es) → All (λ e. e.0 < end) es → AllPairs (λ x y. x < y) (keys_of es) → RiseWithin from end es
rise_within from end [] first below pairs = tt
rise_within from end (e ∷ es) first below pairs = (
  All-head (λ m. from ≤ m) e.0 (keys_of es) first,
  All-head (λ e. e.0 < end) e es below,
  rise_within (e.0 + 1) end es after (All-tail (λ e. e.0 < end) e es below) (AllPairs-tail (λ x y. x < y) e.0 (keys_of es) pairs),
)
  where
    after : All (λ m. e.0 + 1 ≤ m) (keys_of es)
    after k d inside = let more = AllPairs-head (λ x y. x < y) e.0 (keys_of es) pairs k d inside in omega arith

-- a number before them is no key
found_before : (from end k : ℕ) (es : NamedRanges) → RiseWithin from end es → k < from → first_range es k ≡ None
found_before from end k [] rise before = refl
found_before from end k (e ∷ es) rise before =
    let low = rise.0 in
    let rest : first_range es k ≡ None = found_before (e.0 + 1) end k es rise.2 (omega arith) in
    let skip : eqb k e.0 ≡ false = grind (arith, nat_tests) in
    rw skip rest

-- a number after the first key has what the rest of the list says
passed : (e : ℕ × (Value × Value)) (es : NamedRanges) (a k : ℕ) → a ≡ e.0 → a + 1 ≤ k → first_range (e ∷ es) k ≡ first_range es k
passed e es a k same behind = let skip : eqb k e.0 ≡ false = grind (arith, nat_tests) in rw skip refl

-- a number without an entry has no line
pub lines_sorted : (g : ℕ → Option Range → List ℕ) (h : ℕ → List ℕ) (a n : ℕ) (es : NamedRanges) → ((k : ℕ) → g k None ≡ []) → RiseWithin a (a + n) es
    → ((k : ℕ) → a ≤ k → k < a + n → h k ≡ g k (first_range es k)) → flat_map (λ e. g e.0 (Some (range e.1))) es ≡ flat_map h (range_with_len a n)
lines_sorted g h a zero [] empty rise each = refl
lines_sorted g h a zero (e ∷ es) empty rise each = let low = rise.0 in let high = rise.1 in absurd (omega arith)
lines_sorted g h a (suc n) [] empty rise each =
    let none : h a ≡ [] = each a (omega arith) (omega arith) ∙ empty a in
    let rest : [] ≡ flat_map h (range_with_len (a + 1) n) = lines_sorted g h (a + 1) n [] empty tt (λ k low high. each k (omega arith) (omega arith)) in
    rest ∙ ap (λ w. w ++ flat_map h (range_with_len (a + 1) n)) (sym none)
lines_sorted g h a (suc n) (e ∷ es) empty rise each =
    let low = rise.0 in
    let high = rise.1 in
    let end : a + suc n ≡ a + 1 + n = omega arith in
    ⊎_elim
    (λ (same : a ≡ e.0).
    let yes : eqb a e.0 ≡ true = grind (arith, nat_tests) in
    let held : first_range (e ∷ es) a ≡ Some (range e.1) = rw yes refl in
    let here : g e.0 (Some (range e.1)) ≡ h a = sym (each a (omega arith) (omega arith) ∙ ap (g a) held ∙ ap (λ m. g m (Some (range e.1))) same) in
    let from : e.0 + 1 ≡ a + 1 = omega arith in
    let later : RiseWithin (a + 1) (a + 1 + n) es = subst (λ m. RiseWithin m (a + 1 + n) es) from (subst (λ m. RiseWithin (e.0 + 1) m es) end rise.2) in
    let rest : flat_map (λ e. g e.0 (Some (range e.1))) es ≡ flat_map h (range_with_len (a + 1) n) = lines_sorted g h (a + 1) n es empty later (λ k from below. each k (omega arith) (omega arith) ∙ ap (g k) (passed e es a k same from)) in
    ap (λ w. w ++ flat_map (λ e. g e.0 (Some (range e.1))) es) here ∙ ap (λ w. h a ++ w) rest)
    (λ (other : a ≡ e.0 → ⊥).
    let above : a + 1 ≤ e.0 = omega (arith, other) in
    let later : RiseWithin (a + 1) (a + 1 + n) (e ∷ es) = subst (λ m. RiseWithin (a + 1) m (e ∷ es)) end (above, high, rise.2) in
    let none : h a ≡ [] = each a (omega arith) (omega arith) ∙ ap (g a) (found_before (a + 1) (a + 1 + n) a (e ∷ es) later (omega arith)) ∙ empty a in
    let rest : flat_map (λ e. g e.0 (Some (range e.1))) (e ∷ es) ≡ flat_map h (range_with_len (a + 1) n) = lines_sorted g h (a + 1) n (e ∷ es) empty later (λ k from below. each k (omega arith) (omega arith)) in
    rest ∙ ap (λ w. w ++ flat_map h (range_with_len (a + 1) n)) (sym none))
    (cases_eq a e.0)
