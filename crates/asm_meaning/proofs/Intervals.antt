-- Free. The elements of an interval of positions.
--     between_more, between_none     the first position and those after it;  an interval without
--                                    positions
--     interval_laws-..               the same of outcomes
use Rattle.std.proofs.Common.{◌≡◌, ℕ, zero, suc, ◌+◌, ◌-◌, ◌≤◌, ◌<◌, Bool, cond, List, [], ◌∷◌, ◌++◌, length, take, drop, Some, refl, sym, ap, ◌∙◌, arith, add-one}
use Rattle.std.specs.Prelude.{slice_get}
use Rattle.std.proofs.Math.Seq.{take-append-add}
use Rattle.std.proofs.lemmas.List.{at_drop_more, drop_all, length-drop, length-take-le, take-append-drop}
use Rattle.std.proofs.lemmas.Option.{slice_get_within, get_or_from_slice_get}
use Rattle.asm_state.specs.declared.value.Value.{Value}
use Rattle.asm_meaning.specs.Does.{Outcome, nothing, both, counted, each}
use Rattle.asm_meaning.specs.code.Intervals.{between}
use Rattle.asm_meaning.proofs.BesideLemmas.PartsBeside.{split_laws}

take_none : (vs : List Value) → take 0 vs ≡ []
take_none [] = refl
take_none (v ∷ vs) = refl

take_all : (vs : List Value) → take (length vs) vs ≡ vs
take_all [] = refl
take_all (v ∷ vs) = ap (λ ws. v ∷ ws) (take_all vs)

pub interval_laws-all : (vs : List Value) → between 0 (length vs) vs ≡ vs
interval_laws-all vs = let whole : length vs - 0 ≡ length vs = omega arith in ap (λ n. take n vs) whole ∙ take_all vs

pub between_more : (from to : ℕ) (vs : List Value) (v : Value) → from < to → slice_get vs from ≡ Some v → between from to vs ≡ v ∷ between (from + 1) to vs
between_more from to vs v low there =
    let less : to - from ≡ suc (to - (from + 1)) = omega (arith, low) in
    ap (λ n. take n (drop from vs)) less
    ∙ ap (take (suc (to - (from + 1)))) (at_drop_more (λ (xs : List Value). xs) vs from v (slice_get_within vs from v there))
    ∙ ap (λ w. w ∷ between (from + 1) to vs) (get_or_from_slice_get vs from v v there)

pub between_none : (from to : ℕ) (vs : List Value) → to ≤ from → between from to vs ≡ []
between_none from to vs past = let zero_left : to - from ≡ 0 = omega (arith, past) in ap (λ n. take n (drop from vs)) zero_left ∙ take_none (drop from vs)

module _ (m : Value → ℕ → Outcome) (test : Value → Bool) where
  pub interval_laws-next : (from to : ℕ) (vs : List Value) (v : Value) (b : Bool) → from < to → slice_get vs from ≡ Some v → b ≡ test v
      → cond b (counted (both (m v from) (each m test (from + 1) (between (from + 1) to vs)))) (each m test (from + 1) (between (from + 1) to vs))
      ≡ each m test from (between from to vs)
  interval_laws-next from to vs v b low there is =
      ap (λ so. cond so (counted (both (m v from) (each m test (from + 1) (between (from + 1) to vs)))) (each m test (from + 1) (between (from + 1) to vs))) is
      ∙ ap (λ k. cond (test v) (counted (both (m v from) (each m test k (between (from + 1) to vs)))) (each m test k (between (from + 1) to vs))) (add-one from)
      ∙ sym (ap (each m test from) (between_more from to vs v low there))

  pub interval_laws-none : (from to : ℕ) (vs : List Value) → to ≤ from → each m test from (between from to vs) ≡ nothing
  interval_laws-none from to vs past = ap (each m test from) (between_none from to vs past)

-- ---- cut in two

drop_after : (a n : ℕ) (vs : List Value) → drop n (drop a vs) ≡ drop (a + n) vs
drop_after zero n vs = let same : n ≡ 0 + n = omega arith in ap (λ k. drop k vs) same
drop_after (suc a) n [] = let few : 0 ≤ n = omega arith in let less : 0 ≤ suc a + n = omega arith in drop_all n [] few ∙ sym (drop_all (suc a + n) [] less)
drop_after (suc a) n (v ∷ vs) = let same : suc (a + n) ≡ suc a + n = omega arith in drop_after a n vs ∙ ap (λ k. drop k (v ∷ vs)) same

take_more : (n m : ℕ) (xs : List Value) → n ≤ length xs → take (n + m) xs ≡ take n xs ++ take m (drop n xs)
take_more n m xs few =
    let long = length-take-le n xs few in
    ap (take (n + m)) (sym (take-append-drop n xs))
    ∙ ap (λ k. take (k + m) (take n xs ++ drop n xs)) (sym long)
    ∙ take-append-add (take n xs) (drop n xs) m

module _ (a b c : ℕ) (vs : List Value) (low : a ≤ b) (high : b ≤ c) (within : c ≤ length vs) where
  long_enough : b - a ≤ length (drop a vs)
  long_enough = let left = length-drop a vs in omega (arith, low, high, within, left)

  between_cut : between a c vs ≡ between a b vs ++ between b c vs
  between_cut =
      let sum : c - a ≡ (b - a) + (c - b) = omega (arith, low, high) in
      let there : a + (b - a) ≡ b = omega (arith, low) in
      ap (λ n. take n (drop a vs)) sum
      ∙ take_more (b - a) (c - b) (drop a vs) long_enough
      ∙ ap (λ ws. between a b vs ++ take (c - b) ws) (drop_after a (b - a) vs ∙ ap (λ k. drop k vs) there)

  between_length : length (between a b vs) ≡ b - a
  between_length = length-take-le (b - a) (drop a vs) long_enough

  pub interval_laws-cut : (m : Value → ℕ → Outcome) (test : Value → Bool) → both (each m test a (between a b vs)) (each m test b (between b c vs)) ≡ each m test a (between a c vs)
  interval_laws-cut m test =
      let there : length (between a b vs) + a ≡ b = omega (arith, between_length, low) in
      sym (ap (each m test a) between_cut ∙ split_laws.of_elements m test (between a b vs) (between b c vs) a
      ∙ ap (λ k. both (each m test a (between a b vs)) (each m test k (between b c vs))) there)
