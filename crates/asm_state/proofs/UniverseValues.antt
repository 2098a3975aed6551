-- Free. A universe is a run of codes: each value has the code after that of the one before it.
use Rattle.std.proofs.Common.{◌≡◌, ℕ, zero, suc, ◌+◌, ◌-◌, ◌<◌, ◌≤◌, ℤ, pos, negsuc, ◌+ℤ◌, ◌≤ℤ◌, ◌-ℤ◌, Bool, true, false, cond, List, length, slice_index_or, slice_get, Some, None, to_z, of_z, w64, refl, sym, ap, subst, ◌∙◌, arith}
use Rattle.std.specs.Prelude.{int_le, unsigned_abs}
use Rattle.std.specs.Cmp.{nat_cmp_is}
use Rattle.std.specs.List.{position, position_or_len}
use Rattle.std.specs.declared.cmp.Ordering.TheVariants.{Less}
use Rattle.std.proofs.lemmas.Grind.{common_steps}
use Rattle.std.proofs.lemmas.Int.{ints}
use Rattle.std.proofs.lemmas.List.Sums.{position_or_len_is}
use Rattle.std.proofs.lemmas.Option.{slice_get-get_or}
use Rattle.asm_state.specs.declared.element.TheConstants.{MAX_ELEMENTS}
use Rattle.asm_state.specs.Bounds.{least_number, greatest_number, code_of_first_element}
use Rattle.asm_state.specs.declared.element.Element.{Element as Member}
use Rattle.asm_state.specs.declared.number.Number.{Number as WholeNumber}
use Rattle.asm_state.specs.declared.universe.First.{First}
use Rattle.asm_state.specs.declared.universe.First.TheVariants as first
use Rattle.asm_state.specs.declared.value.Value.{Value}
use Rattle.asm_state.specs.declared.value.Value.TheVariants.{Undef, Number, Element}
use Rattle.asm_state.specs.code.Codes.{number_code, code_of}
use Rattle.asm_state.specs.Operation.{is_same, number_or_undef}
use Rattle.asm_state.specs.Numbers.{at_most}
use Rattle.asm_state.specs.code.ConsecutiveCodes.{AreConsecutive}
use Rattle.asm_state.specs.Universe.{element, elements, numbers, count_between, numbers_between, IsUniverse}
use Rattle.asm_state.specs.code.UniverseView.{values_from, first_code, IsWithin}
use Rattle.asm_state.proofs.Codes.{codes_rise, codes_apart}
pub use Rattle.asm_state.specs.code.WordCodes.{number_in_range, element_in_range, element_code, number_code_is}
use Rattle.asm_state.proofs.UpdateLemmas.Updates.{same_value, value_itself}

-- how many elements there are
pub length-elements : (first count : ℕ) → length (elements first count) ≡ count
length-elements first zero = refl
length-elements first (suc n) = omega (arith, length-elements (first + 1) n)

-- how many numbers there are
pub length-numbers : (first : ℤ) (count : ℕ) → length (numbers first count) ≡ count
length-numbers first zero = refl
length-numbers first (suc n) = omega (arith, length-numbers (first +ℤ pos 1) n)

-- how many values a universe has
pub length-values_from : (first : First) (count : ℕ) → length (values_from first count) ≡ count
length-values_from (first.Element k) count = length-elements k count
length-values_from (first.Number z) count = length-numbers z count

-- the element at each index
pub at_elements : (first count i : ℕ) (d : Value) → i < count → slice_index_or (elements first count) i d ≡ element (first + i)
at_elements first zero i d within = absurd (omega arith)
at_elements first (suc n) zero d within = let same : first ≡ first + 0 = omega arith in ap element same
at_elements first (suc n) (suc i) d within =
    let same : first + 1 + i ≡ first + suc i = omega arith in
    at_elements (first + 1) n i d (omega arith) ∙ ap element same

-- the number at each index
pub at_numbers : (first : ℤ) (count i : ℕ) (d : Value) → i < count → slice_index_or (numbers first count) i d ≡ number_or_undef (first +ℤ pos i)
at_numbers first zero i d within = absurd (omega arith)
at_numbers first (suc n) zero d within = let same : first ≡ first +ℤ pos 0 = omega (arith, ints) in ap number_or_undef same
at_numbers first (suc n) (suc i) d within =
    let same : (first +ℤ pos 1) +ℤ pos i ≡ first +ℤ pos (suc i) = omega (arith, ints) in
    at_numbers (first +ℤ pos 1) n i d (omega arith) ∙ ap number_or_undef same

-- the number that is i more has the code that is i more
code_further : (x y : ℤ) (i : ℕ) → least_number ≤ℤ x → y ≡ x +ℤ pos i → number_code y ≡ number_code x + i
code_further (pos m) (pos n) i low e = omega (arith, ints)
code_further (pos m) (negsuc n) i low e = omega (arith, ints)
code_further (negsuc m) (pos n) i low e = omega (arith, ints)
code_further (negsuc m) (negsuc n) i low e = omega (arith, ints)

-- a number whose code isn't beyond those of numbers isn't beyond the greatest one
code_bounds : (y : ℤ) → number_code y < code_of_first_element → y ≤ℤ greatest_number
code_bounds (pos n) h = omega (arith, ints)
code_bounds (negsuc n) h = omega (arith, ints)

-- those of elements in the range have them in turn from the first one's code
elements_in_turn : (first count : ℕ) → first + count ≤ MAX_ELEMENTS → AreConsecutive (code_of_first_element + first) (elements first count)
elements_in_turn first count room = record { code_at = each }
  where
    each : (i : ℕ) (d : Value) → i < length (elements first count) → code_of (slice_index_or (elements first count) i d) ≡ code_of_first_element + first + i
    each i d here =
        let below : i < count = omega (arith, length-elements first count) in
        ap code_of (at_elements first count i d below) ∙ element_code (first + i) (omega (arith, room)) ∙ omega arith

-- and those of numbers in the range
numbers_in_turn : (first : ℤ) (count : ℕ) → least_number ≤ℤ first → number_code first + count ≤ code_of_first_element → AreConsecutive (number_code first) (numbers first count)
numbers_in_turn first count low room = record { code_at = each }
  where
    each : (i : ℕ) (d : Value) → i < length (numbers first count) → code_of (slice_index_or (numbers first count) i d) ≡ number_code first + i
    each i d here =
        let below : i < count = omega (arith, length-numbers first count) in
        let further = code_further first (first +ℤ pos i) i low refl in
        let high = code_bounds (first +ℤ pos i) (omega (arith, room)) in
        ap code_of (at_numbers first count i d below) ∙ number_code_is (first +ℤ pos i) (omega (arith, ints, low)) high ∙ further

-- those of a universe
pub values_in_turn : (first : First) (count : ℕ) → IsWithin first count → AreConsecutive (first_code first) (values_from first count)
values_in_turn (first.Element k) count within = elements_in_turn k count (omega (arith, within.in_range))
values_in_turn (first.Number z) count within = numbers_in_turn z count within.is_first.0 within.in_range

-- such values rise
pub in_turn_rise : (start : ℕ) (vs : List Value) → AreConsecutive start vs → IsUniverse vs
in_turn_rise start vs turn i j d before within =
    let low = turn.code_at i d (omega arith) in
    let high = turn.code_at j d within in
    codes_rise (slice_index_or vs i d) (slice_index_or vs j d) ∙ sym (nat_cmp_is (code_of (slice_index_or vs i d)) (code_of (slice_index_or vs j d)) Less (omega arith))

pub elements_rise : (first count : ℕ) → first + count ≤ MAX_ELEMENTS → IsUniverse (elements first count)
elements_rise first count room = in_turn_rise (code_of_first_element + first) (elements first count) (elements_in_turn first count room)

-- the codes of the numbers between two stay among those of numbers
last_code : (x y : ℤ) → least_number ≤ℤ x → x ≤ℤ y → y ≤ℤ greatest_number → number_code x + unsigned_abs (y -ℤ x) ≤ code_of_first_element - 1
last_code (pos a) (pos b) low between high = omega (arith, ints)
last_code (pos a) (negsuc b) low between high = absurd (omega (arith, ints))
last_code (negsuc a) (pos b) low between high = omega (arith, ints)
last_code (negsuc a) (negsuc b) low between high = omega (arith, ints)

some_code : (x : ℤ) → x ≤ℤ greatest_number → number_code x ≤ code_of_first_element - 1
some_code (pos a) top = omega (arith, ints)
some_code (negsuc a) top = omega (arith, ints)

codes_fit : (first last : WholeNumber) → number_code first.value + count_between first.value last.value ≤ code_of_first_element
codes_fit first last = by_test (int_le first.value last.value) refl
  where
    by_test : (b : Bool) → int_le first.value last.value ≡ b → number_code first.value + cond b (unsigned_abs (last.value -ℤ first.value) + 1) 0 ≤ code_of_first_element
    by_test true e = let most = last_code first.value last.value first.low (at_most e) last.high in omega (arith, most)
    by_test false e = let most = some_code first.value first.high in omega (arith, most)

pub numbers_rise : (first last : WholeNumber) → IsUniverse (numbers_between first.value last.value)
numbers_rise first last =
    in_turn_rise (number_code first.value) (numbers_between first.value last.value)
    (numbers_in_turn first.value (count_between first.value last.value) first.low (codes_fit first last))

-- no value is at an index of another code
other_index : (start : ℕ) (vs : List Value) → AreConsecutive start vs → (v : Value) (i : ℕ) → i < length vs → (start + i ≡ code_of v → ⊥) → is_same v (slice_index_or vs i Undef) ≡ false
other_index start vs turn v i within other =
    elim (is_same v (slice_index_or vs i Undef)) as (λ b. is_same v (slice_index_or vs i Undef) ≡ b → b ≡ false) [
      | true ↦ λ same. absurd (other (sym (turn.code_at i Undef within) ∙ ap code_of (sym (same_value v (slice_index_or vs i Undef) same))))
      | false ↦ λ apart. refl
    ] refl

-- a value is at the index of its code
own_index : (start : ℕ) (vs : List Value) → AreConsecutive start vs → (v : Value) (i : ℕ) → i < length vs → start + i ≡ code_of v → is_same v (slice_index_or vs i Undef) ≡ true
own_index start vs turn v i within same =
    let it : v ≡ slice_index_or vs i Undef = codes_apart v (slice_index_or vs i Undef) (sym same ∙ sym (turn.code_at i Undef within)) in
    ap (is_same v) (sym it) ∙ value_itself v

-- the position from the length of a walk to the first value that passes
position_by : (p : Value → Bool) (vs : List Value) (i : ℕ) → position_or_len p vs ≡ i → i < length vs → position p vs ≡ Some i
position_by p vs i e within = grind (arith, common_steps)

-- a walk to the end finds none
no_position_by : (p : Value → Bool) (vs : List Value) → position_or_len p vs ≡ length vs → position p vs ≡ None
no_position_by p vs e = grind (arith, common_steps)

-- the position of a value among values in turn
pub position_in_turn : (start : ℕ) (vs : List Value) → AreConsecutive start vs → (v : Value) → start ≤ code_of v → code_of v - start < length vs → position (is_same v) vs ≡ Some (code_of v - start)
position_in_turn start vs turn v from within =
    position_by (is_same v) vs (code_of v - start)
    (position_or_len_is (is_same v) vs (code_of v - start) Undef (omega arith) (λ k before. other_index start vs turn v k (omega arith) (λ same. omega arith)) (λ here. own_index start vs turn v (code_of v - start) here (omega arith)))
    within

-- a value of another code has none
pub position_out_of_turn : (start : ℕ) (vs : List Value) → AreConsecutive start vs → (v : Value) → (start ≤ code_of v → length vs ≤ code_of v - start) → position (is_same v) vs ≡ None
position_out_of_turn start vs turn v out =
    no_position_by (is_same v) vs
    (position_or_len_is (is_same v) vs (length vs) Undef (omega arith) (λ k before. other_index start vs turn v k before (λ same. omega (arith, out (omega arith)))) (λ here. absurd (omega arith)))

-- an element of a universe is in the range
pub element_within : {start : First} {count : ℕ} {vs : List Value} {k i : ℕ} → IsWithin start count → values_from start count ≡ vs → start ≡ first.Element k → i < length vs → k + i < MAX_ELEMENTS
element_within {start} {count} {vs} {k} {i} within view is here =
    let long = length-values_from start count in
    let known : IsWithin (first.Element k) count = subst (λ f. IsWithin f count) is within in
    omega (arith, known.in_range, ap length view)

-- an element of a universe is at its index
pub element_stands : {start : First} {count : ℕ} {vs : List Value} {k i : ℕ} (e : Member) → IsWithin start count → values_from start count ≡ vs → start ≡ first.Element k → i < length vs → e.index ≡ k + i → slice_get vs i ≡ Some (Element e)
element_stands {start} {count} {vs} {k} {i} e within view is here same =
    let seen : elements k count ≡ vs = subst (λ f. values_from f count ≡ vs) is view in
    let below : i < count = omega (arith, length-elements k count, ap length seen) in
    slice_get-get_or vs i Undef here ∙ ap Some (ap (λ l. slice_index_or l i Undef) (sym seen) ∙ at_elements k count i Undef below ∙ sym (element_in_range (k + i) e same))

-- a number, and the one i further on, are in the range
pub record IsNear (z : ℤ) (i : ℕ) : Type 0 where
  pub few : i < 4096
  pub low : least_number ≤ℤ z
  pub high : (z +ℤ pos i) ≤ℤ greatest_number

-- the first number of a universe, and each further one, are in the range
pub number_within : {start : First} {count : ℕ} {vs : List Value} {z : ℤ} {i : ℕ} → IsWithin start count → values_from start count ≡ vs → start ≡ first.Number z → i < length vs → IsNear z i
number_within {start} {count} {vs} {z} {i} within view is here =
    let long = length-values_from start count in
    let known : IsWithin (first.Number z) count = subst (λ f. IsWithin f count) is within in
    let further = code_further z (z +ℤ pos i) i known.is_first.0 refl in
    record {
      few = omega (arith, known.few, ap length view);
      low = known.is_first.0;
      high = code_bounds (z +ℤ pos i) (omega (arith, known.in_range, ap length view));
    }

-- what the code's arithmetic gives is the number i further on
pub bits_further : (z : ℤ) (i : ℕ) → IsNear z i → to_z w64 (of_z w64 (to_z w64 (of_z w64 z) +ℤ to_z w64 i)) ≡ z +ℤ pos i
bits_further z i near = omega (arith, ints, near.few, near.low, near.high)

-- a number of a universe is at its index
pub number_stands : {start : First} {count : ℕ} {vs : List Value} {z : ℤ} {i : ℕ} (n : WholeNumber) → IsWithin start count → values_from start count ≡ vs → start ≡ first.Number z → i < length vs → n.value ≡ to_z w64 (of_z w64 (to_z w64 (of_z w64 z) +ℤ to_z w64 i)) → slice_get vs i ≡ Some (Number n)
number_stands {start} {count} {vs} {z} {i} n within view is here same =
    let seen : numbers z count ≡ vs = subst (λ f. values_from f count ≡ vs) is view in
    let below : i < count = omega (arith, length-numbers z count, ap length seen) in
    let further = bits_further z i (number_within within view is here) in
    slice_get-get_or vs i Undef here ∙ ap Some (ap (λ l. slice_index_or l i Undef) (sym seen) ∙ at_numbers z count i Undef below ∙ sym (number_in_range (z +ℤ pos i) n (same ∙ further)))

-- the position of a value in a universe, from the codes that the code compares
pub position_within : {start : First} {count : ℕ} {vs : List Value} {low code : ℕ} (v : Value) → IsWithin start count → values_from start count ≡ vs → low ≡ first_code start → code ≡ code_of v → low ≤ code → code - low < count → Some (code - low) ≡ position (is_same v) vs
position_within {start} {count} {vs} {low} {code} v within view low_is code_is from below =
    let turn : AreConsecutive (first_code start) vs = subst (AreConsecutive (first_code start)) view (values_in_turn start count within) in
    let long : length vs ≡ count = sym (ap length view) ∙ length-values_from start count in
    let index : code - low ≡ code_of v - first_code start = omega arith in
    ap Some index ∙ sym (position_in_turn (first_code start) vs turn v (omega arith) (omega arith))

-- a value whose code is none of the universe's has no position in it
pub position_outside : {start : First} {count : ℕ} {vs : List Value} {low code : ℕ} (v : Value) → IsWithin start count → values_from start count ≡ vs → low ≡ first_code start → code ≡ code_of v → (low ≤ code → count ≤ code - low) → None ≡ position (is_same v) vs
position_outside {start} {count} {vs} {low} {code} v within view low_is code_is out =
    let turn : AreConsecutive (first_code start) vs = subst (AreConsecutive (first_code start)) view (values_in_turn start count within) in
    let long : length vs ≡ count = sym (ap length view) ∙ length-values_from start count in
    sym (position_out_of_turn (first_code start) vs turn v (λ from. omega (arith, out (omega arith))))
