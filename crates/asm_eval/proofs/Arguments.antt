-- Free. Values of lists of arguments, formed one after the other.
use Rattle.std.proofs.Common.{◌≡◌, ℕ, ◌+◌, ◌≤◌, ◌<◌, List, [], ◌∷◌, ◌++◌, length, map, take, sym, ap, ◌∙◌, arith}
use Rattle.std.specs.Prelude.{slice_index_or, slice_set}
use Rattle.std.proofs.lemmas.List.{take_all, take_more_set, map_more}

-- values of i arguments, if there are no more
pub all_valued : {X Y : Type 0} (f : X → Y) (xs : List X) (ys : List Y) (i : ℕ) → length xs ≤ i → i ≤ length xs → take i ys ≡ map f (take i xs) → take (length xs) ys ≡ map f xs
all_valued f xs ys i above below are =
    let same : length xs ≡ i = omega arith in
    ap (λ n. take n ys) same ∙ are ∙ ap (map f) (take_all i xs above)

-- one more value after the others
pub one_more_value : {X Y : Type 0} (f : X → Y) (xs : List X) (ys : List Y) (i : ℕ) (x : X) (y : Y) → i < length xs → i < length ys → x ≡ slice_index_or xs i x → y ≡ f x
    → take i ys ≡ map f (take i xs) → take (i + 1) (slice_set ys i y) ≡ map f (take (i + 1) xs)
one_more_value f xs ys i x y within room is e are =
    take_more_set ys i y room ∙ (λ j. are j ++ (e ∙ ap f is) j ∷ []) ∙ sym (map_more f xs i x within)
