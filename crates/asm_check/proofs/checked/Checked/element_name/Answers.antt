use Rattle.std.proofs.Common.{sym, ◌∙◌}
use Rattle.asm_syntax.specs.code.Views.{spec_of}
use Rattle.asm_check.proofs.CheckedCalls.{element_has_name}
use Rattle.asm_check.proofs.checked.Checked.element_name.Goals as goal

pub element_name-requires-clause-number : goal.element_name-requires-clause-number
element_name-requires-clause-number c =
    let self = c.args.self.now in
    (element_has_name (spec_of self.spec) self.numbering self.numbered c.args.e c.requires).number

pub element_name-requires-clause-index : goal.element_name-requires-clause-index
element_name-requires-clause-index c =
    let self = c.args.self.now in
    (element_has_name (spec_of self.spec) self.numbering self.numbered c.args.e c.requires).index

pub returns : goal.returns
returns c =
    let self = c.args.self.now in
    sym (element_has_name (spec_of self.spec) self.numbering self.numbered c.args.e c.requires).name ∙ c.element_name.ensures
