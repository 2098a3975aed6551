use Rattle.std.proofs.Common.{refl, ◌∙◌}
use Rattle.asm_state.proofs.ValueLaws.{value_laws}
use Rattle.asm_check.proofs.LimitLemmas.NoMoreElements.{no_element}
use Rattle.asm_check.proofs.numbers.declared_signature.element.Goals as goal

pub returns-then-number : goal.returns-then-number
returns-then-number c = c.of.ensures ∙ value_laws.element_at c.args.number _ refl

pub returns-else-number : goal.returns-else-number
returns-else-number c = c.undef.ensures ∙ no_element c.args.number c.if-number.false
