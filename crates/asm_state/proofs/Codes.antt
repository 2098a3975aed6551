-- Free. Codes rise with values, and tell them apart.
use Rattle.std.proofs.Common.{◌-◌, ◌≡◌, ◌<◌, ◌≤◌, ℕ, ℤ, pos, negsuc, ◌<ℤ◌, ◌≤ℤ◌, Bool, true, false, refl, ap, arith}
use Rattle.std.specs.Cmp.{nat_cmp_is, int_ranks}
use Rattle.std.specs.Ordering.{int_cmp, nat_cmp, ordering_then, MatchOrdering}
use Rattle.std.specs.declared.cmp.Ordering.{Ordering}
use Rattle.std.specs.declared.cmp.Ordering.TheVariants.{Less, Equal, Greater}
use Rattle.std.proofs.lemmas.Int.{ints}
use Rattle.asm_state.specs.Bounds.{least_number, greatest_number, code_of_first_element}
use Rattle.asm_state.specs.declared.number.Number.{Number as WholeNumber}
use Rattle.asm_state.specs.declared.element.Element.{Element as Member}
use Rattle.asm_state.specs.declared.value.Value.{Value}
use Rattle.asm_state.specs.declared.value.Value.TheVariants.{Undef, Truth, Number, Element}
use Rattle.asm_state.specs.code.Codes.{number_code, code_of}
use Rattle.asm_state.specs.Value.{value_cmp, value_cmp-antisymmetric}

number_codes_rise : (x y : ℤ) → least_number ≤ℤ x → x <ℤ y → number_code x < number_code y
number_codes_rise (pos m) (pos n) low h = omega (arith, ints)
number_codes_rise (pos m) (negsuc n) low h = omega (arith, ints)
number_codes_rise (negsuc m) (pos n) low h = omega (arith, ints)
number_codes_rise (negsuc m) (negsuc n) low h = omega (arith, ints)

-- the codes of each kind lie between those of its neighbours
number_code_bounds : (x : ℤ) → least_number ≤ℤ x → x ≤ℤ greatest_number → (4 ≤ number_code x) × (number_code x ≤ code_of_first_element - 1)
number_code_bounds (pos n) low high = (omega arith, omega (arith, ints))
number_code_bounds (negsuc n) low high = (omega (arith, ints), omega arith)

pub number_bounds : (n : WholeNumber) → (4 ≤ code_of (Number n)) × (code_of (Number n) ≤ code_of_first_element - 1)
number_bounds n = number_code_bounds n.value n.low n.high

truth_bounds : (b : Bool) → (2 ≤ code_of (Truth b)) × (code_of (Truth b) ≤ 3)
truth_bounds false = (omega arith, omega arith)
truth_bounds true = (omega arith, omega arith)

-- the order o is that of the numbers m and n
abbrev Ranks : Ordering → ℕ → ℕ → Type 0
Ranks o m n = MatchOrdering o (m < n) (m ≡ n) (n < m)

tied : (o : Ordering) (m n : ℕ) → Ranks o m n → Ranks (ordering_then o Equal) m n
tied Less m n h = h
tied Equal m n h = h
tied Greater m n h = h

numbers_rank : (m n : WholeNumber) (o : Ordering) → MatchOrdering o (m.value <ℤ n.value) (m.value ≡ n.value) (n.value <ℤ m.value) → Ranks o (code_of (Number m)) (code_of (Number n))
numbers_rank m n Less h = number_codes_rise m.value n.value m.low h
numbers_rank m n Equal h = ap number_code h
numbers_rank m n Greater h = number_codes_rise n.value m.value n.low h

elements_rank : (d e : Member) (o : Ordering) → MatchOrdering o (pos d.index <ℤ pos e.index) (pos d.index ≡ pos e.index) (pos e.index <ℤ pos d.index) → Ranks o (code_of (Element d)) (code_of (Element e))
elements_rank d e Less h = omega (arith, ints)
elements_rank d e Equal h = omega (arith, ints)
elements_rank d e Greater h = omega (arith, ints)

-- what the order of two values says of their codes
pub values_rank : (a b : Value) → Ranks (value_cmp a b) (code_of a) (code_of b)
values_rank Undef Undef = refl
values_rank Undef (Truth b) = omega (arith, truth_bounds b)
values_rank Undef (Number n) = omega (arith, number_bounds n)
values_rank Undef (Element e) = omega arith
values_rank (Truth a) Undef = omega (arith, truth_bounds a)
values_rank (Truth false) (Truth false) = refl
values_rank (Truth false) (Truth true) = omega arith
values_rank (Truth true) (Truth false) = omega arith
values_rank (Truth true) (Truth true) = refl
values_rank (Truth a) (Number n) = omega (arith, truth_bounds a, number_bounds n)
values_rank (Truth a) (Element e) = omega (arith, truth_bounds a)
values_rank (Number m) Undef = omega (arith, number_bounds m)
values_rank (Number m) (Truth b) = omega (arith, number_bounds m, truth_bounds b)
values_rank (Number m) (Number n) = tied (int_cmp m.value n.value) (code_of (Number m)) (code_of (Number n)) (numbers_rank m n (int_cmp m.value n.value) (int_ranks m.value n.value))
values_rank (Number m) (Element e) = omega (arith, number_bounds m)
values_rank (Element d) Undef = omega arith
values_rank (Element d) (Truth b) = omega (arith, truth_bounds b)
values_rank (Element d) (Number n) = omega (arith, number_bounds n)
values_rank (Element d) (Element e) = tied (int_cmp (pos d.index) (pos e.index)) (code_of (Element d)) (code_of (Element e)) (elements_rank d e (int_cmp (pos d.index) (pos e.index)) (int_ranks (pos d.index) (pos e.index)))

pub codes_rise : (a b : Value) → value_cmp a b ≡ nat_cmp (code_of a) (code_of b)
codes_rise a b = nat_cmp_is (code_of a) (code_of b) (value_cmp a b) (values_rank a b)

equal_from : (m n : ℕ) (o : Ordering) → Ranks o m n → m ≡ n → o ≡ Equal
equal_from m n Less h e = absurd (omega arith)
equal_from m n Equal h e = refl
equal_from m n Greater h e = absurd (omega arith)

pub codes_apart : (a b : Value) → code_of a ≡ code_of b → a ≡ b
codes_apart a b e = value_cmp-antisymmetric a b (equal_from (code_of a) (code_of b) (value_cmp a b) (values_rank a b) e)
