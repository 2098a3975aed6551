use Rattle.asm_syntax.specs.code.Views.{spec_of, name_of}
use Rattle.asm_check.proofs.CheckedCalls.{start_found, start_other, start_main}
use Rattle.asm_check.proofs.checked.main_of.Goals as goal

pub unwrap-requires : goal.unwrap-requires
unwrap-requires c =
    start_found (spec_of c.args.spec.now) c.requires.good c.args.numbering.now c.requires.numbered (name_of c.main_name_of-start.result.now) c.main_name_of-start.ensures
    c.named.result c.named.ensures

pub unreachable-requires : goal.unreachable-requires
unreachable-requires c =
    start_other (spec_of c.args.spec.now) c.requires.good c.args.numbering.now c.requires.numbered (name_of c.main_name_of-start.result.now) c.main_name_of-start.ensures
    c.named.result c.named.ensures c.unwrap.result c.unwrap.ensures c.in_default.not-Rule

pub returns : goal.returns
returns c =
    start_main (spec_of c.args.spec.now) c.requires.good c.args.numbering.now c.requires.numbered (name_of c.main_name_of-start.result.now) c.main_name_of-start.ensures
    c.named.result c.named.ensures c.unwrap.result c.in-Rule.main c.unwrap.ensures c.in-Rule.is
