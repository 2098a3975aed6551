use Rattle.std.proofs.Common.{sym, subst, ap, nat_eq, ◌∙◌}
use Rattle.std.specs.Cmp.Lexicographic.{pointwise}
use Rattle.std.specs.Map.{lookup}
use Rattle.std.specs.Option.{option_flatten}
use Rattle.asm_syntax.specs.code.Views.{spec_of}
use Rattle.asm_check.specs.code.numbers.NumberTables.{IsInRange}
use Rattle.asm_check.proofs.CheckedCalls.{named_in_range}
use Rattle.asm_check.proofs.NumberLemmas.Numbered.{found_named}
use Rattle.asm_check.proofs.checked.Checked.named.Goals as goal

pub returns-clause-named : goal.returns-clause-named
returns-clause-named c =
    let self = c.args.self.now in
    c.found.ensures
    ∙ ap (λ x. option_flatten (lookup (pointwise nat_eq x) self.numbering.names)) c.as_bytes.ensures.value
    ∙ found_named (spec_of self.spec) self.numbering c.args.name.now self.numbered

pub returns-clause-in_range : goal.returns-clause-in_range
returns-clause-in_range c = subst (IsInRange (spec_of c.args.self.now.spec)) (sym (returns-clause-named c)) (named_in_range (spec_of c.args.self.now.spec) c.args.name.now)
