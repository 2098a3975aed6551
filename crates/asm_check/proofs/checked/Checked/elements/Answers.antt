use Rattle.std.proofs.Common.{◌∙◌}
use Rattle.asm_syntax.specs.code.Views.{spec_of}
use Rattle.asm_check.proofs.CheckedCalls.{elements_counted}
use Rattle.asm_check.proofs.checked.Checked.elements.Goals as goal

pub returns : goal.returns
returns c =
    let self = c.args.self.now in
    c.elements.ensures ∙ elements_counted (spec_of self.spec) self.numbering self.numbered
