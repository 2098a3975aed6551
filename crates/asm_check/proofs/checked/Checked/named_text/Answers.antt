use Rattle.std.proofs.Common.{sym, subst, ◌∙◌}
use Rattle.asm_syntax.specs.code.Views.{spec_of}
use Rattle.asm_check.specs.code.numbers.NumberTables.{IsInRange}
use Rattle.asm_check.proofs.CheckedCalls.{named_in_range}
use Rattle.asm_check.proofs.NumberLemmas.Numbered.{found_named}
use Rattle.asm_check.proofs.checked.Checked.named_text.Goals as goal

pub returns-clause-named : goal.returns-clause-named
returns-clause-named c =
    let self = c.args.self.now in
    c.named.ensures ∙ found_named (spec_of self.spec) self.numbering c.args.name.now self.numbered

pub returns-clause-in_range : goal.returns-clause-in_range
returns-clause-in_range c =
    let self = c.args.self.now in
    subst (IsInRange (spec_of self.spec)) (sym (c.named.ensures ∙ found_named (spec_of self.spec) self.numbering c.args.name.now self.numbered))
    (named_in_range (spec_of self.spec) c.args.name.now)
