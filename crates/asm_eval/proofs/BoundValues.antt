-- Free. Values of arguments that are bound in arrays, the last ones before the others.
use Rattle.std.proofs.Common.{◌≡◌, List, [], ◌∷◌, ◌++◌, length, map, refl, ap, ◌∙◌, arith}
use Rattle.asm_state.specs.declared.value.Value.{Value}
use Rattle.asm_meaning.specs.Value.{Reading}
use Rattle.asm_code.specs.code.Readings.{always}

module _ {X : Type 0} (f : X → Value) (more : List Reading) where
  pub values_are : (xs : List X) → map always (map f xs) ++ more ≡ map (λ (x : X). always (f x)) xs ++ more
  values_are [] = refl
  values_are (x ∷ xs) = ap (λ (rs : List Reading). always (f x) ∷ rs) (values_are xs)

  -- the last ones come after the others
  pub lasts_bound : (xs ys : List X) (vs : List Value) → vs ≡ map f ys → map (λ (x : X). always (f x)) xs ++ (map always vs ++ more) ≡ map (λ (x : X). always (f x)) (xs ++ ys) ++ more
  lasts_bound [] ys vs are = ap (λ us. map always us ++ more) are ∙ values_are ys
  lasts_bound (x ∷ xs) ys vs are = ap (λ (rs : List Reading). always (f x) ∷ rs) (lasts_bound xs ys vs are)

  -- if there are no others
  pub alone_bound : (xs ys : List X) (vs : List Value) → length xs ≡ 0 → vs ≡ map f ys → map always vs ++ more ≡ map (λ (x : X). always (f x)) (xs ++ ys) ++ more
  alone_bound [] ys vs none are = lasts_bound [] ys vs are
  alone_bound (x ∷ xs) ys vs none are = absurd (omega (arith, none))
