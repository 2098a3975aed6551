-- Free. What is read of a text that passed a range without negative numbers: the number that it
-- writes.
use Rattle.std.proofs.Common.{◌==◌, ◌≡◌, ◌∙◌, ◌<◌, ◌^◌, ap, cond, drop, ℕ, Bool, true, false, List, [], ◌∷◌, Option, None, Some, refl, subst, arith}
use Rattle.std.specs.Prelude.{Err, Ok, Result, pos, unwrap_or}
use Rattle.std.specs.Str.Parse.{IsNumeral, ParsesUnsigned, digits_value, signed_digits_value, starts_with_minus, without_leading_plus}
use Rattle.std.proofs.lemmas.Bool.{ne_eqb}
use Rattle.std.proofs.lemmas.Int.{ints}
use Rattle.std.proofs.lemmas.Str.Parse.{digit_from_value}
use Rattle.clap.specs.Lexer.{without_minus}
use Rattle.clap.specs.Matches.{ReadsOne}
use Rattle.clap.specs.Values.{IsSignedIn}

minus_is_cut : (t : List ℕ) → without_minus t ≡ cond (starts_with_minus t) (drop 1 t) t
minus_is_cut [] = refl
minus_is_cut (x ∷ xs) = go (x == 45)
  where
    go : (b : Bool) → unwrap_or (cond b (Some xs) None) (x ∷ xs) ≡ cond b xs (x ∷ xs)
    go true = refl
    go false = refl

no_plus : (ds : List ℕ) → IsNumeral 10 ds → without_leading_plus ds ≡ ds
no_plus [] h = refl
no_plus (d ∷ ds) h =
    let plus : (d == 43) ≡ false = ne_eqb _ _ (λ e. omega (arith, digit_from_value d h.1.0)) in
    ap (λ (b : Bool). drop (cond b 1 0) (d ∷ ds)) plus

pub read_number : (E : Type 0) (G : List ℕ → Result ℕ E → Type 0) (k least most : ℕ) (t : List ℕ) (r : Option ℕ)
    → ReadsOne G (without_minus t) r → ((u : List ℕ) (x : Result ℕ E) → G u x → ParsesUnsigned k 10 u x) → most < 2 ^ k
    → IsSignedIn (pos least) (pos most) t → (n : ℕ) × (r ≡ Some n) × (signed_digits_value 10 t ≡ pos n)
read_number E G k least most t r read only fits passed =
    go (starts_with_minus t) refl r (subst (λ (u : List ℕ). ReadsOne G u r) (minus_is_cut t) read)
  where
    go : (b : Bool) → starts_with_minus t ≡ b → (o : Option ℕ) → ReadsOne G (cond (starts_with_minus t) (drop 1 t) t) o
        → (n : ℕ) × (o ≡ Some n) × (signed_digits_value 10 t ≡ pos n)
    go true minus (Some v) h =
        let low = rw minus at passed.2 in
        let numeral : IsNumeral 10 (drop 1 t) = rw minus at passed.0 in
        let parsed = only (drop 1 t) (Ok v) (rw minus at h) in
        let is : v ≡ digits_value 10 (drop 1 t) = parsed.1 ∙ ap (digits_value 10) (no_plus (drop 1 t) numeral) in
        (v, refl, rw minus (omega (arith, ints)))
    go true minus None h =
        let low = rw minus at passed.2 in
        let numeral : IsNumeral 10 (drop 1 t) = rw minus at passed.0 in
        let same = no_plus (drop 1 t) numeral in
        let small : digits_value 10 (drop 1 t) < 2 ^ k = omega (arith, ints) in
        absurd (only (drop 1 t) (Err h.0) (rw minus at h.1) (rw same numeral, rw same small))
    go false minus (Some v) h =
        let parsed = only t (Ok v) (rw minus at h) in
        (v, refl, rw (minus, parsed.1) refl)
    go false minus None h =
        let low = rw minus at passed.2 in
        let high = rw minus at passed.3 in
        let numeral = rw minus at passed.0 in
        absurd (only t (Err h.0) (rw minus at h.1) (numeral, omega (arith, ints)))
