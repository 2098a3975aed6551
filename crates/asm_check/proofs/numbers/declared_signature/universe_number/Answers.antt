use Rattle.std.proofs.Common.{◌∙◌}
use Rattle.asm_syntax.specs.code.Views.{spec_of}
use Rattle.asm_check.proofs.NumberLemmas.NameNumbers.{universe_numbered}
use Rattle.asm_check.proofs.numbers.declared_signature.universe_number.Goals as goal

pub returns : goal.returns
returns c =
    c.universe_or.ensures
    ∙ universe_numbered (spec_of c.args.numbered.now.spec.now) c.args.numbered.now.numbering.now c.args.numbered.now.numbered c.args.name.now.text c.universes.result c.named.result c.named.ensures c.universes.ensures
