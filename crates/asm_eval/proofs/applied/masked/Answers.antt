use Rattle.std.proofs.Common.{◌^◌, sym, ap, ◌∙◌}
use Rattle.std.specs.Int.{int_rem_euclid}
use Rattle.std.proofs.lemmas.Nat.{pow_pos}
use Rattle.asm_state.proofs.ValueLaws.{value_laws}
use Rattle.asm_state.specs.Operation.{number_or_undef, op, remainder_or_undef}
use Rattle.asm_state.specs.declared.operation.Op.TheVariants.{Remainder}
use Rattle.asm_state.specs.declared.value.Value.TheVariants.{Number}
use Rattle.asm_eval.proofs.Powers.{remainder_is}
use Rattle.asm_eval.proofs.applied.masked.Goals as goal

pub returns-in-Number : goal.returns-in-Number
returns-in-Number c =
    let v = c.in-Number.number.value in
    let n = c.args.right.number in
    let e = c.args.right.exponent in
    let is = (c.args.right.power c.requires).1 in
    c.of.ensures ∙ value_laws.number (int_rem_euclid v n.value) c.last_digits.result c.last_digits.ensures
    ∙ ap (λ d. number_or_undef (int_rem_euclid v d)) is ∙ remainder_is v (2 ^ e) (pow_pos e) ∙ sym (ap (remainder_or_undef v) is)
    ∙ ap (λ w. op Remainder w (Number n)) (sym c.in-Number.is ∙ c.value.ensures)
