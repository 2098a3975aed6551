-- Definition. Universes, as lists of values.
--     element k                    the element numbered k
--     elements first count         `count` elements from that number on
--     numbers first count          `count` numbers from that one on
--     numbers_between first last   all numbers from first to last, both among them: none if last
--                                  is below first
--     IsUniverse vs                the values rise, so that none is there twice
use Rattle.std.specs.Prelude.{◌≡◌, refl, ℕ, zero, suc, ◌+◌, nat_lt, Bool, true, false, cond, List, [], ◌∷◌, AllPairs, ℤ, pos, ◌+ℤ◌, ◌-ℤ◌, int_le, unsigned_abs}
use Rattle.std.specs.declared.cmp.Ordering.TheVariants.{Less}
use Rattle.std.proofs.lemmas.Bool.{ltb-true}
use Rattle.asm_state.specs.declared.element.TheConstants.{MAX_ELEMENTS}
use Rattle.asm_state.specs.declared.value.Value.{Value}
use Rattle.asm_state.specs.declared.value.Value.TheVariants.{Undef, Element}
use Rattle.asm_state.specs.Operation.{number_or_undef}
use Rattle.asm_state.specs.Value.{value_cmp}

abbrev pub element_by_test : (k : ℕ) (test : Bool) → nat_lt k MAX_ELEMENTS ≡ test → Value
element_by_test k true e = Element (record { index = k; in_range = ltb-true k MAX_ELEMENTS e })
element_by_test k false e = Undef

-- there are as many elements as the bound says
unfoldable pub element : ℕ → Value
element k = element_by_test k (nat_lt k MAX_ELEMENTS) refl

abbrev pub elements : (first count : ℕ) → List Value
elements first zero = []
elements first (suc n) = element first ∷ elements (first + 1) n

abbrev pub numbers : (first : ℤ) (count : ℕ) → List Value
numbers first zero = []
numbers first (suc n) = number_or_undef first ∷ numbers (first +ℤ pos 1) n

abbrev pub count_between : (first last : ℤ) → ℕ
count_between first last = cond (int_le first last) (unsigned_abs (last -ℤ first) + 1) 0

abbrev pub numbers_between : (first last : ℤ) → List Value
numbers_between first last = numbers first (count_between first last)

abbrev pub IsUniverse : List Value → Type 0
IsUniverse vs = AllPairs (λ v w. value_cmp v w ≡ Less) vs
