-- Free. The laws of values.
use Rattle.std.proofs.Common.{◌≡◌, true, subst, sym}
use Rattle.std.specs.Bool.{Decides}
use Rattle.std.specs.Cmp.Lexicographic.{pointwise_decides}
use Rattle.asm_state.specs.declared.value.Value.{Value}
use Rattle.asm_state.specs.Operation.{is_same}
use Rattle.asm_state.specs.ValueLaws.{ValueLaws}
use Rattle.asm_state.proofs.Numbers.{number_has, number_in_range, number_is}
use Rattle.asm_state.proofs.UpdateLemmas.Updates.{same_value, value_itself}
use Rattle.asm_state.proofs.UniverseValues.{element_in_range, element_code}

same : (v w : Value) → Decides (is_same v w) (v ≡ w)
same v w = (same_value v w, λ e. subst (λ u. is_same v u ≡ true) e (value_itself v))

pub value_laws : ValueLaws
value_laws = record {
  same = same;
  same_list = λ us vs. pointwise_decides {E = is_same} same us vs;
  number = number_in_range;
  with_value = λ z n. (number_has z n, λ same. sym (number_is z n same));
  element_at = element_in_range;
  element_code = element_code;
}
