-- Laws of values: the test of equality, and which values numbers and elements are.
use Rattle.std.specs.Prelude.{◌≡◌, ◌↔◌, Some, ◌<◌, ◌+◌, ℕ, ℤ, List}
use Rattle.std.specs.Bool.{Decides}
use Rattle.asm_state.specs.declared.element.TheConstants.{MAX_ELEMENTS}
use Rattle.asm_state.specs.Bounds.{code_of_first_element}
use Rattle.asm_state.specs.declared.element.Element.{Element as Member}
use Rattle.asm_state.specs.declared.number.Number.{Number as WholeNumber}
use Rattle.asm_state.specs.declared.value.Value.{Value}
use Rattle.asm_state.specs.declared.value.Value.TheVariants.{Number, Element}
use Rattle.asm_state.specs.code.Codes.{code_of}
use Rattle.asm_state.specs.Numbers.{number_with}
use Rattle.asm_state.specs.Operation.{is_same, number_or_undef}
use Rattle.asm_state.specs.Tables.{is_list}
use Rattle.asm_state.specs.Universe.{element}

pub record ValueLaws : Type 0 where
  -- the tests of equality, of two values and of two argument lists, test just that
  pub same : (v w : Value) → Decides (is_same v w) (v ≡ w)
  pub same_list : (us vs : List Value) → Decides (is_list us vs) (us ≡ vs)
  -- a number is the value that its own number gives, and an element the one that its index gives
  pub number : (z : ℤ) (n : WholeNumber) → n.value ≡ z → Number n ≡ number_or_undef z
  -- it is the one that its value gives, and has that value
  pub with_value : (z : ℤ) (n : WholeNumber) → (number_with z ≡ Some n) ↔ (n.value ≡ z)
  pub element_at : (k : ℕ) (e : Member) → e.index ≡ k → Element e ≡ element k
  -- the code of an element, by its index
  pub element_code : (k : ℕ) → k < MAX_ELEMENTS → code_of (element k) ≡ code_of_first_element + k
