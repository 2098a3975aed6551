use Rattle.std.proofs.Common.{ap, ◌∙◌}
use Rattle.asm_syntax.specs.code.Views.{spec_of}
use Rattle.asm_check.specs.code.uses.TermFaultLists.{arguments_by}
use Rattle.asm_check.proofs.UseLemmas.NumbersInTerms.{arguments_are}
use Rattle.asm_check.proofs.uses.term_faults.arguments_of.Goals as goal

pub returns : goal.returns
returns c =
    let spec = spec_of c.args.checked.now.spec in
    c.arguments_numbered.ensures ∙ ap (arguments_by spec) c.named_text.ensures.named ∙ arguments_are spec c.args.name.now
