use Rattle.std.proofs.Common.{sym, ◌∙◌}
use Rattle.asm_syntax.specs.code.Views.{spec_of}
use Rattle.asm_check.proofs.CheckedCalls.{function_has_name}
use Rattle.asm_check.proofs.checked.Checked.function_name.Goals as goal

pub function_name-requires-clause-number : goal.function_name-requires-clause-number
function_name-requires-clause-number c =
    let self = c.args.self.now in
    (function_has_name (spec_of self.spec) self.numbering self.numbered c.args.f c.requires).number

pub function_name-requires-clause-index : goal.function_name-requires-clause-index
function_name-requires-clause-index c =
    let self = c.args.self.now in
    (function_has_name (spec_of self.spec) self.numbering self.numbered c.args.f c.requires).index

pub returns : goal.returns
returns c =
    let self = c.args.self.now in
    sym (function_has_name (spec_of self.spec) self.numbering self.numbered c.args.f c.requires).name ∙ c.function_name.ensures
