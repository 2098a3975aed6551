-- Free. The elements of a choice, as members of an object.
--     unsaid          variables without elements say nothing
--     none_first      without elements nothing is said behind the first variable either
--     any_of_said     whether one of the elements has a variable of this name
--     hidden_on       an element that is hidden is left out
--     shown_on        one that isn't comes before the others
--     whole           what is left, as the code cuts it
--     behind_first    what is left behind the first of it
--     left_none       if no element is left nothing is said
--     elements_end    and the members are whole
use Rattle.std.proofs.Common.{◌≡◌, ◌∙◌, ◌+◌, ◌-◌, ◌<◌, ◌≤◌, ◌⊎◌, ◌||◌, ◌++◌, ◌∷◌, [], ℕ, zero, suc, Bool, Bor, true, false, cond, inl, inr, List, length, drop, map, take, ap, append-nil, refl, sym, arith}
use Rattle.std.specs.Prelude.{min}
use Rattle.std.specs.List.{list_any}
use Rattle.std.specs.Str.{bytes_eq}
use Rattle.std.proofs.lemmas.Bool.{cases_lt}
use Rattle.std.proofs.lemmas.List.{drop-drop, drop_all, length-drop, take_all}
use Rattle.asm_state.specs.declared.value.Value.{Value}
use Rattle.asm_syntax.specs.declared.name.Name.{Name}
use Rattle.asm_explore_texts.specs.code.TextPlaces.{elements_said}
use Rattle.asm_explore_table.specs.JsonRows.{unhidden}
use Rattle.asm_explore_table.specs.JsonTexts.{member_text}
use Rattle.asm_explore_table.specs.code.JsonParts.{listed_from}
use Rattle.asm_explore_table.proofs.JsonLists.{listed_none}

pub unsaid : (xs : List (Bor Name)) → elements_said xs [] ≡ []
unsaid [] = refl
unsaid (x ∷ xs) = refl

pub none_first : (xs : List (Bor Name)) (vs : List Value) → length vs < 1 → elements_said (drop 1 xs) (drop 1 vs) ≡ elements_said xs vs
none_first xs [] few = unsaid (drop 1 xs) ∙ sym (unsaid xs)
none_first xs (v ∷ vs) few = absurd (omega (arith, few))

module _ (name : List ℕ) where
  abbrev named : Bor Name → Bool
  named x = bytes_eq x.now.text name

  abbrev has_name : (List ℕ × Value) → Bool
  has_name one = bytes_eq one.0 name

  none_named : (n : ℕ) → list_any named (take n []) ≡ false
  none_named zero = refl
  none_named (suc n) = refl

  first_ones : (n : ℕ) (xs : List (Bor Name)) (vs : List Value) → n ≡ min (length xs) (length vs) → list_any named (take n xs) ≡ list_any has_name (elements_said xs vs)
  first_ones n [] vs is = none_named n
  first_ones zero (x ∷ xs) [] is = refl
  first_ones (suc n) (x ∷ xs) [] is = absurd (omega (arith, is))
  first_ones zero (x ∷ xs) (v ∷ vs) is = absurd (omega (arith, is))
  first_ones (suc n) (x ∷ xs) (v ∷ vs) is = ap (λ b. named x || b) (first_ones n xs vs (omega (arith, is)))

  pub any_of_said : (n : ℕ) (xs : List (Bor Name)) (vs : List Value) → n ≡ min (length xs) (length vs) → (b : Bool) → b ≡ list_any named (take n xs)
      → b ≡ list_any has_name (elements_said xs vs)
  any_of_said n xs vs is b found = found ∙ first_ones n xs vs is

module _ (x : List ℕ) (v : Value) (more : List (List ℕ × Value)) where
  abbrev by_test : Bool → List (List ℕ × Value)
  by_test b = cond b (unhidden more) ((x, v) ∷ unhidden more)

  pub hidden_on : list_any (λ later. bytes_eq later.0 x) more ≡ true → unhidden ((x, v) ∷ more) ≡ unhidden more
  hidden_on is = ap by_test is

  pub shown_on : list_any (λ later. bytes_eq later.0 x) more ≡ false → unhidden ((x, v) ∷ more) ≡ (x, v) ∷ unhidden more
  shown_on is = ap by_test is

pub whole : {X : Type 0} (k : ℕ) (xs : List X) → take (length xs - k) (drop k xs) ≡ drop k xs
whole k xs =
    let many = length-drop k xs in
    take_all (length xs - k) (drop k xs) (omega (arith, many))

pub behind_first : {X : Type 0} (k : ℕ) (xs : List X) → drop (k + 1) xs ≡ drop 1 (take (length xs - k) (drop k xs))
behind_first k xs = sym (drop-drop 1 k xs) ∙ ap (λ ys. drop 1 ys) (sym (whole k xs))

pub left_none : (k : ℕ) (xs : List (Bor Name)) (vs : List Value) → min (length xs) (length vs) ≤ k → elements_said (drop k xs) (drop k vs) ≡ []
left_none k xs vs past = at (cases_lt k (length xs))
  where
    at : (k < length xs) ⊎ (length xs ≤ k) → elements_said (drop k xs) (drop k vs) ≡ []
    at (inl low) =
        let short : length vs ≤ k = omega (arith, past, low) in
        ap (λ ws. elements_said (drop k xs) ws) (drop_all k vs short) ∙ unsaid (drop k xs)
    at (inr short) = ap (λ ys. elements_said ys (drop k vs)) (drop_all k xs short)

pub elements_end : (member : List ℕ × Value → List ℕ × List ℕ) (b : Bool) (xs : List (Bor Name)) (vs : List Value) (k : ℕ) → min (length xs) (length vs) ≤ k → (old whole : List ℕ)
    → old ++ listed_from member_text b (map member (unhidden (elements_said (drop k xs) (drop k vs)))) ≡ whole → old ≡ whole
elements_end member b xs vs k past old whole before =
    sym (append-nil old) ∙ ap (λ t. old ++ t) (sym (ap (λ es. listed_from member_text b (map member (unhidden es))) (left_none k xs vs past) ∙ listed_none member_text b)) ∙ before
