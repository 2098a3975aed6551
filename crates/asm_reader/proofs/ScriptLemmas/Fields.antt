-- Free. What a line says, by its fields.
use Rattle.std.proofs.Common.{◌≡◌, ◌==◌, ℕ, List, [], ◌∷◌, length, map, get_or, Option, None, Some, Bor, refl, sym, ap, ◌∙◌, arith}
use Rattle.std.specs.List.{slice_split}
use Rattle.asm_reader.specs.declared.script.When.{When}
use Rattle.asm_reader.specs.ScriptText.{number_of, when_of, path_of, line_with, line_of_fields, line_of}

other_count : (fields : List (Bor (List ℕ))) → (length fields ≡ 3 → ⊥) → line_of_fields (map (λ f. f.now) fields) ≡ None
other_count [] h = refl
other_count (a ∷ []) h = refl
other_count (a ∷ b ∷ []) h = refl
other_count (a ∷ b ∷ c ∷ []) h = absurd (h refl)
other_count (a ∷ b ∷ c ∷ d ∷ more) h = refl

three_fields : (fields : List (Bor (List ℕ))) (d : Bor (List ℕ)) → length fields ≡ 3
    → line_of_fields (map (λ f. f.now) fields) ≡ line_with (when_of (get_or fields 0 d).now) (path_of (get_or fields 1 d).now) (number_of (get_or fields 2 d).now)
three_fields [] d h = absurd (omega (arith, h))
three_fields (a ∷ []) d h = absurd (omega (arith, h))
three_fields (a ∷ b ∷ []) d h = absurd (omega (arith, h))
three_fields (a ∷ b ∷ c ∷ []) d h = refl
three_fields (a ∷ b ∷ c ∷ e ∷ more) d h = absurd (omega (arith, h))

module _ (line : List ℕ) (fields : List (Bor (List ℕ))) (split : map (λ f. f.now) fields ≡ slice_split (λ b. b == 32) line) where
  pub unless_three : (length fields ≡ 3 → ⊥) → None ≡ line_of line
  unless_three h = sym (ap line_of_fields (sym split) ∙ other_count fields h)

  pub of_three : (d : Bor (List ℕ)) → length fields ≡ 3 → (w : Option When) (p : Option (List ℕ)) (k : Option ℕ)
      → w ≡ when_of (get_or fields 0 d).now → p ≡ path_of (get_or fields 1 d).now → k ≡ number_of (get_or fields 2 d).now → line_with w p k ≡ line_of line
  of_three d three w p k e f g = (λ j. line_with (e j) (f j) (g j)) ∙ sym (three_fields fields d three) ∙ ap line_of_fields split

-- a line of three fields that doesn't say one of the three
module _ (w : Option When) (p : Option (List ℕ)) (k : Option ℕ) where
  pub no_step : w ≡ None → None ≡ line_with w p k
  no_step e = ap (λ o. line_with o p k) (sym e)

  pub no_path : p ≡ None → None ≡ line_with w p k
  no_path e = by w ∙ ap (λ o. line_with w o k) (sym e)
    where
      by : (w : Option When) → None ≡ line_with w None k
      by None = refl
      by (Some n) = refl

  pub no_number : k ≡ None → None ≡ line_with w p k
  no_number e = by w p ∙ ap (line_with w p) (sym e)
    where
      by : (w : Option When) (p : Option (List ℕ)) → None ≡ line_with w p None
      by None p = refl
      by (Some n) None = refl
      by (Some n) (Some ns) = refl
