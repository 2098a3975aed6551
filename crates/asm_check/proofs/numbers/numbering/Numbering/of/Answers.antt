use Rattle.std.proofs.Common.{◌≤◌, length, map, take, refl, sym, subst, arith}
use Rattle.std.proofs.lemmas.List.{length-map}
use Rattle.asm_check.specs.code.numbers.NumberTables.{IsNumberingOf}
use Rattle.asm_check.specs.code.names.Tables.{declaration_of}
use Rattle.asm_check.proofs.NumberLemmas.Numbered.{next_entry, all_entries}
use Rattle.asm_check.proofs.numbers.numbering.Numbering.of.Goals as goal

pub loop-i-preserved : goal.loop-i-preserved
loop-i-preserved c = λ spec table.
    let entries = c.args.names.now in
    let next = next_entry spec entries table c.loop-i.i c.entry_at.result c.entry_at.ensures in
    subst (λ ds. IsNumberingOf ds c.add.new.self) (sym next.0)
    (c.in_ok-add.ensures (take c.loop-i.i (map declaration_of entries)) (declaration_of c.entry_at.result) refl refl next.1 (c.loop-i.invariant spec table))

pub returns : goal.returns
returns c = λ spec table.
    let entries = c.args.names.now in
    let whole : length (map declaration_of entries) ≤ c.loop-i.i = omega (arith, length-map entries declaration_of) in
    let it = subst (λ ds. IsNumberingOf ds c.loop-i.numbering) (all_entries spec entries table c.loop-i.i whole) (c.loop-i.invariant spec table) in
    record { names = it.names; indices = it.indices }
