-- Laws of universes, and of the argument lists in domains.
use Rattle.std.specs.Prelude.{◌≡◌, ◌<◌, ◌≤◌, ◌↔◌, ℕ, ◌+◌, ◌*◌, List, [], ◌∷◌, length, slice_get, Some, None, All, AllPairs, Contains, IsTrue, ℤ, pos, ◌+ℤ◌}
use Rattle.std.specs.Cmp.Lexicographic.{slice_cmp}
use Rattle.std.specs.List.{position}
use Rattle.std.specs.declared.cmp.Ordering.TheVariants.{Less}
use Rattle.asm_state.specs.declared.element.TheConstants.{MAX_ELEMENTS}
use Rattle.asm_state.specs.declared.number.Number.{Number as WholeNumber}
use Rattle.asm_state.specs.declared.value.Value.{Value}
use Rattle.asm_state.specs.Operation.{is_same, number_or_undef}
use Rattle.asm_state.specs.Tables.{Domain, argument_lists, is_in}
use Rattle.asm_state.specs.Universe.{element, elements, numbers, numbers_between, IsUniverse}
use Rattle.asm_state.specs.Value.{value_cmp}

pub record UniverseLaws : Type 0 where
  -- an enumeration and a range have as many values as they count, in turn
  pub element_count : (first count : ℕ) → length (elements first count) ≡ count
  pub element_at : (first count i : ℕ) → i < count → slice_get (elements first count) i ≡ Some (element (first + i))
  pub number_count : (first : ℤ) (count : ℕ) → length (numbers first count) ≡ count
  pub number_at : (first : ℤ) (count i : ℕ) → i < count → slice_get (numbers first count) i ≡ Some (number_or_undef (first +ℤ pos i))
  -- elements and numbers in their range rise
  pub elements_rise : (first count : ℕ) → first + count ≤ MAX_ELEMENTS → IsUniverse (elements first count)
  pub numbers_rise : (first last : WholeNumber) → IsUniverse (numbers_between first.value last.value)
  -- the value at the position of a value is that value, and the position of the value at a position
  -- is that position
  pub value : (vs : List Value) (v : Value) (i : ℕ) → position (is_same v) vs ≡ Some i → slice_get vs i ≡ Some v
  pub position_of : (vs : List Value) (v : Value) (i : ℕ) → IsUniverse vs → slice_get vs i ≡ Some v → position (is_same v) vs ≡ Some i
  pub without : (vs : List Value) (v : Value) → position (is_same v) vs ≡ None → ¬ (Contains vs v)

pub record DomainLaws : Type 0 where
  -- no universe has one argument list, and a universe more has the lists of the rest for each of
  -- its values
  pub count_of_none : length (argument_lists []) ≡ 1
  pub count : (vs : List Value) (domain : Domain) → length (argument_lists (vs ∷ domain)) ≡ length vs * length (argument_lists domain)
  -- the argument lists of a domain are those that are in it
  pub lists : (domain : Domain) (vs : List Value) → Contains (argument_lists domain) vs ↔ IsTrue (is_in domain vs)
  -- they rise, value by value, so that the order by positions is the order by values
  pub rise : (domain : Domain) → All IsUniverse domain → AllPairs (λ us vs. slice_cmp value_cmp us vs ≡ Less) (argument_lists domain)
