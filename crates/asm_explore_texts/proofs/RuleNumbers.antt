-- Free. Rules by their numbers.
--     numbered_in      a rule of a list, by its number
--     one_more         one more element
--     leads_nowhere    behind no place there is none
--     leads_on         the next number of a path
use Rattle.std.proofs.Common.{◌≡◌, ◌∙◌, ◌+◌, ◌<◌, ◌++◌, ℕ, zero, suc, List, [], ◌∷◌, length, map, drop, get_or, Option, Some, None, refl, ap, arith}
use Rattle.std.specs.Prelude.{option_map, slice_get}
use Rattle.std.specs.Borrow.{Bor}
use Rattle.std.proofs.lemmas.List.{drop_more}
use Rattle.asm_state.specs.declared.value.Value.{Value}
use Rattle.asm_syntax.specs.SourceTree.{Rule, Spec, rules_of}
use Rattle.asm_syntax.specs.declared.name.Name.{Name}
use Rattle.asm_explore_texts.specs.Places.{Place, follow, part_at, rule_number}
use Rattle.asm_explore_texts.specs.code.TextPlaces.{elements_said}

pub numbered_in : {X : Type 0} (f : X → Rule) (xs : List X) (k : ℕ) → option_map f (slice_get xs k) ≡ rule_number (rules_of (map f xs)) k
numbered_in f [] k = refl
numbered_in f (x ∷ xs) zero = refl
numbered_in f (x ∷ xs) (suc k) = numbered_in f xs k

pub one_more : (xs : List (Bor Name)) (vs : List Value) (x : Bor Name) (v : Value) → length xs ≡ length vs → elements_said (xs ++ x ∷ []) (vs ++ v ∷ []) ≡ elements_said xs vs ++ (x.now.text, v) ∷ []
one_more [] [] x v even = refl
one_more [] (w ∷ vs) x v even = absurd (omega (arith, even))
one_more (y ∷ xs) [] x v even = absurd (omega (arith, even))
one_more (y ∷ xs) (w ∷ vs) x v even = ap (λ es. (y.now.text, w) ∷ es) (one_more xs vs x v (omega (arith, even)))

module _ (s : Spec) where
  pub leads_nowhere : (path : List ℕ) → follow s path None ≡ None
  leads_nowhere [] = refl
  leads_nowhere (k ∷ path) = leads_nowhere path

  pub leads_on : (path : List ℕ) (n : ℕ) (place : Place) (next : Option Place) → n < length path → part_at s (get_or path n 0) place ≡ next
      → follow s (drop n path) (Some place) ≡ follow s (drop (n + 1) path) next
  leads_on path n place next low part =
      ap (λ ks. follow s ks (Some place)) (drop_more path n 0 low)
      ∙ ap (λ (it : Option Place). follow s (drop (n + 1) path) it) part
