-- Bridge to the code. A number and an element are the values at their codes, and each code is that
-- of the value at it.
use Rattle.std.proofs.Common.{◌≡◌, ℕ, zero, suc, ◌+◌, ◌-◌, ◌<◌, ◌≤◌, ℤ, pos, negsuc, ◌≤ℤ◌, ◌-ℤ◌, Bool, true, false, Some, inl, inr, refl, sym, ap, subst, ◌∙◌, arith}
use Rattle.std.specs.Prelude.{nat_lt, int_le}
use Rattle.std.proofs.lemmas.Bool.{cases_lt, lt-ltb, le-ltb}
use Rattle.std.proofs.lemmas.Int.{ints}
use Rattle.asm_state.specs.declared.element.TheConstants.{MAX_ELEMENTS}
use Rattle.asm_state.specs.declared.element.Element.{Element as Member}
use Rattle.asm_state.specs.declared.number.Number.{Number as WholeNumber}
use Rattle.asm_state.specs.declared.value.Value.TheVariants.{Number, Element}
use Rattle.asm_state.specs.Bounds.{least_number, greatest_number, code_of_zero, code_of_first_element}
use Rattle.asm_state.specs.code.Codes.{number_code, code_of}
use Rattle.asm_state.specs.Value.{same_number, same_element}
use Rattle.asm_state.specs.Numbers.{number_by_tests, number_with}
use Rattle.asm_state.specs.Operation.{number_or_undef, value_or_undef}
use Rattle.asm_state.specs.Universe.{element_by_test, element}
use Rattle.asm_state.specs.Words.{plain_at, value_of_code, IsCode}

tests_pass : (z : ℤ) (n : WholeNumber) → n.value ≡ z → (low high : Bool) (low_is : int_le least_number z ≡ low) (high_is : int_le z greatest_number ≡ high) → least_number ≤ℤ z → z ≤ℤ greatest_number → Some n ≡ number_by_tests z low high low_is high_is
tests_pass z n e true true low_is high_is a b = ap Some (same_number n _ e)
tests_pass z n e true false low_is high_is a b = absurd (omega (arith, ints))
tests_pass z n e false high low_is high_is a b = absurd (omega (arith, ints))

-- the number with a value is the one that has it
pub number_is : (z : ℤ) (n : WholeNumber) → n.value ≡ z → Some n ≡ number_with z
unfolding number_with
number_is z n e =
    tests_pass z n e _ _ _ _ (subst (λ y. least_number ≤ℤ y) e n.low) (subst (λ y. y ≤ℤ greatest_number) e n.high)

pub number_in_range : (z : ℤ) (n : WholeNumber) → n.value ≡ z → Number n ≡ number_or_undef z
number_in_range z n e = ap value_or_undef (number_is z n e)

-- an element is the one that the test gives, if it passes
test_passes : (k : ℕ) (e : Member) → e.index ≡ k → (test : Bool) (test_is : nat_lt k MAX_ELEMENTS ≡ test) → test ≡ true → Element e ≡ element_by_test k test test_is
test_passes k e same true test_is passes = ap Element (same_element e _ same)
test_passes k e same false test_is passes = cc

-- an element in the range is the one with its number
pub element_in_range : (k : ℕ) (e : Member) → e.index ≡ k → Element e ≡ element k
unfolding element
element_in_range k e same =
    let below : k < MAX_ELEMENTS = subst (λ n. n < MAX_ELEMENTS) same e.in_range in
    test_passes k e same _ _ (lt-ltb k MAX_ELEMENTS below)

-- the code of an element in the range
pub element_code : (k : ℕ) → k < MAX_ELEMENTS → code_of (element k) ≡ code_of_first_element + k
element_code k below = sym (ap code_of (element_in_range k (record { index = k; in_range = below }) refl))

-- the code of a number in the range
pub number_code_is : (z : ℤ) → least_number ≤ℤ z → z ≤ℤ greatest_number → code_of (number_or_undef z) ≡ number_code z
number_code_is z low high = sym (ap code_of (number_in_range z (record { value = z; low = low; high = high }) refl))

-- what is at the codes of each kind
pub code_of_plain : (c : ℕ) → c < 4 → value_of_code c ≡ plain_at c
unfolding value_of_code
code_of_plain c low =
    let test : nat_lt c 4 ≡ true = lt-ltb c 4 low in
    rw test refl

pub at_number : (c : ℕ) → 4 ≤ c → c < code_of_first_element → value_of_code c ≡ number_or_undef (pos c -ℤ pos code_of_zero)
unfolding value_of_code
at_number c low high =
    let first : nat_lt c 4 ≡ false = le-ltb c 4 low in
    let second : nat_lt c code_of_first_element ≡ true = lt-ltb c code_of_first_element high in
    rw (first, second) refl

pub at_element : (c : ℕ) → code_of_first_element ≤ c → value_of_code c ≡ element (c - code_of_first_element)
unfolding value_of_code
at_element c low =
    let first : nat_lt c 4 ≡ false = le-ltb c 4 (omega (arith, low)) in
    let second : nat_lt c code_of_first_element ≡ false = le-ltb c code_of_first_element low in
    rw (first, second) refl

-- the code of the number of a code
pub encoded : (c : ℕ) → number_code (pos c -ℤ pos code_of_zero) ≡ c
encoded c = number_of (pos c -ℤ pos code_of_zero) refl
  where
    number_of : (z : ℤ) → pos c -ℤ pos code_of_zero ≡ z → number_code z ≡ c
    number_of (pos n) e = omega (arith, ints)
    number_of (negsuc n) e = omega (arith, ints)

-- the code of the value at a code
pub same_code : (c : ℕ) → IsCode c → code_of (value_of_code c) ≡ c
same_code c is =
    elim (cases_lt c 4) [
      | inl low ↦ ap code_of (code_of_plain c low) ∙ plain c is.positive low
      | inr past ↦
          elim (cases_lt c code_of_first_element) [
            | inl high ↦ ap code_of (at_number c past high) ∙ number_code_is (pos c -ℤ pos code_of_zero) (omega (arith, ints)) (omega (arith, ints)) ∙ encoded c
            | inr beyond ↦ ap code_of (at_element c beyond) ∙ element_code (c - code_of_first_element) (omega (arith, is.known)) ∙ omega arith
          ]
    ]
  where
    plain : (c : ℕ) → 1 ≤ c → c < 4 → code_of (plain_at c) ≡ c
    plain zero low high = absurd (omega arith)
    plain (suc zero) low high = refl
    plain (suc (suc zero)) low high = refl
    plain (suc (suc (suc zero))) low high = refl
    plain (suc (suc (suc (suc n)))) low high = absurd (omega arith)
