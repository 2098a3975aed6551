-- Free. How many digits numbers have.
--     one_digit        a number below ten has one
--     digits_grow      a greater number has as many or more
use Rattle.std.proofs.Common.{◌≡◌, ◌∙◌, ◌+◌, ◌/◌, ◌%◌, ◌^◌, ◌<◌, ◌≤◌, ◌⊎◌, inl, inr, ℕ, zero, suc, [], ◌∷◌, length, ap, arith, decimal, length-append}
use Rattle.std.proofs.lemmas.Bool.{cases_lt}
use Rattle.std.proofs.lemmas.Fmt.{decimal_digit, decimal_nonempty, decimal_step}

pub one_digit : (n : ℕ) → n < 10 → length (decimal n) ≡ 1
one_digit n low = ap length (decimal_digit n low)

more : (n : ℕ) → 10 ≤ n → n < 2 ^ 64 → length (decimal n) ≡ length (decimal (n / 10)) + 1
more n high fits = ap length (decimal_step n high fits) ∙ length-append (decimal (n / 10)) ((48 + n % 10) ∷ [])

grow : (fuel m n : ℕ) → n ≤ fuel → m ≤ n → n < 2 ^ 64 → length (decimal m) ≤ length (decimal n)
grow zero m n low le fits =
    let small : m < 10 = omega (arith, le, low) in
    let same = one_digit m small in
    let some = decimal_nonempty n fits in
    omega (arith, same, some)
grow (suc fuel) m n low le fits =
    let tenth : n / 10 < 2 ^ 64 = omega (arith, fits) in
    let order : m / 10 ≤ n / 10 = omega (arith, le) in
    at (cases_lt m 10) (λ below. grow fuel (m / 10) (n / 10) below order tenth)
  where
    at : (m < 10) ⊎ (10 ≤ m) → (n / 10 ≤ fuel → length (decimal (m / 10)) ≤ length (decimal (n / 10))) → length (decimal m) ≤ length (decimal n)
    at (inl small) rest =
        let same = one_digit m small in
        let some = decimal_nonempty n fits in
        omega (arith, same, some)
    at (inr large) rest =
        let great : 10 ≤ n = omega (arith, large, le) in
        let bound : m < 2 ^ 64 = omega (arith, le, fits) in
        let it = more m large bound in
        let that = more n great fits in
        let below : n / 10 ≤ fuel = omega (arith, low, great) in
        let fewer = rest below in
        omega (arith, it, that, fewer)

pub digits_grow : (m n : ℕ) → m ≤ n → n < 2 ^ 64 → length (decimal m) ≤ length (decimal n)
digits_grow m n le fits =
    let same : n ≤ n = omega arith in
    grow n m n same le fits
