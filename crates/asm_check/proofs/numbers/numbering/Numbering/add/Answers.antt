use Rattle.std.proofs.Common.{refl}
use Rattle.asm_check.specs.code.names.Tables.{declared_as_view}
use Rattle.asm_check.proofs.NumberLemmas.Numbered.{numbering_grows}
use Rattle.asm_check.proofs.numbers.numbering.Numbering.add.Goals as goal

pub returns : goal.returns
returns c = λ ds d text means fresh it.
    numbering_grows ds d (declared_as_view c.args.meaning) c.args.self.now _ c.add.new.self c.args.name.now c.len.result c.in_ok-number.number
    text means fresh c.len.ensures.len c.in_ok-number.ensures.number c.in_ok-number.ensures.indexed c.in_ok-put.ensures refl it
