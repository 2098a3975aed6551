-- Free. Each value is the one that its code stands for, and each code is that of the value that it
-- stands for.
use Rattle.std.proofs.Common.{◌≡◌, ◌≢◌, to_z, of_z, w64, nat_eq, ℕ, zero, suc, ◌-◌, ◌<◌, ◌≤◌, ℤ, pos, negsuc, ◌≤ℤ◌, ◌-ℤ◌, true, false, refl, sym, ap, ◌∙◌, arith}
use Rattle.std.proofs.lemmas.Int.{ints}
use Rattle.asm_state.specs.declared.value.Value.{Value}
use Rattle.asm_state.specs.declared.value.Value.TheVariants.{Undef, Truth, Number, Element}
use Rattle.asm_state.specs.Bounds.{least_number, code_of_zero, code_of_first_element}
use Rattle.asm_state.specs.code.Codes.{number_code, code_of}
use Rattle.asm_state.specs.Words.{value_of_code, IsCode}
use Rattle.asm_state.specs.code.WordCodes.{number_in_range, element_in_range, code_of_plain, at_number, at_element, encoded, same_code}
use Rattle.asm_state.proofs.Codes.{codes_apart, number_bounds}

-- the number of a code
pub decoded : (z : ℤ) → least_number ≤ℤ z → pos (number_code z) -ℤ pos code_of_zero ≡ z
decoded (pos n) low = omega (arith, ints)
decoded (negsuc n) low = omega (arith, ints)

-- each value is the one at its code
pub value_itself : (v : Value) → value_of_code (code_of v) ≡ v
value_itself Undef = code_of_plain 1 (omega arith)
value_itself (Truth false) = code_of_plain 2 (omega arith)
value_itself (Truth true) = code_of_plain 3 (omega arith)
value_itself (Number n) =
    let bounds = number_bounds n in
    at_number (code_of (Number n)) bounds.0 (omega (arith, bounds.1)) ∙ sym (number_in_range _ n (sym (decoded n.value n.low)))
value_itself (Element e) =
    let same : e.index ≡ code_of (Element e) - code_of_first_element = omega arith in
    at_element (code_of (Element e)) (omega arith) ∙ sym (element_in_range _ e same)

-- the code of each value is one
pub code_is : (v : Value) → IsCode (code_of v)
code_is Undef = record { positive = omega arith; known = omega arith }
code_is (Truth false) = record { positive = omega arith; known = omega arith }
code_is (Truth true) = record { positive = omega arith; known = omega arith }
code_is (Number n) = let bounds = number_bounds n in record { positive = omega (arith, bounds.0); known = omega (arith, bounds.1) }
code_is (Element e) = record { positive = omega arith; known = omega (arith, e.in_range) }

-- a word that stands for a value has its code
pub code_from : (c : ℕ) (v : Value) → IsCode c → value_of_code c ≡ v → code_of v ≡ c
code_from c v is e = ap code_of (sym e) ∙ same_code c is

-- a word with the code of a value stands for it
pub value_from : (c : ℕ) (v : Value) → c ≡ code_of v → value_of_code c ≡ v
value_from c v e = ap value_of_code e ∙ value_itself v

-- a value with the code of a word is the one that it stands for
pub same_from : (c : ℕ) (v w : Value) → IsCode c → value_of_code c ≡ w → code_of v ≡ c → v ≡ w
same_from c v w is view e = codes_apart v w (e ∙ sym (code_from c w is view))

-- the code of the number that the code's arithmetic gives
pub bits_code : (c : ℕ) → IsCode c → number_code (to_z w64 (of_z w64 (to_z w64 c -ℤ pos code_of_zero))) ≡ c
bits_code c is =
    let same : to_z w64 (of_z w64 (to_z w64 c -ℤ pos code_of_zero)) ≡ pos c -ℤ pos code_of_zero = omega (arith, ints, is.known) in
    ap number_code same ∙ encoded c

pub truth_code : (c : ℕ) → 1 ≤ c → c < 4 → c ≢ 1 → code_of (Truth (nat_eq c 3)) ≡ c
truth_code zero low high other = absurd (omega arith)
truth_code (suc zero) low high other = absurd (other refl)
truth_code (suc (suc zero)) low high other = refl
truth_code (suc (suc (suc zero))) low high other = refl
truth_code (suc (suc (suc (suc n)))) low high other = absurd (omega arith)
