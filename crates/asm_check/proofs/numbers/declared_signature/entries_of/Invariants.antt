use Rattle.std.proofs.Common.{◌≡◌, ◌++◌, map, drop}
use Rattle.asm_syntax.specs.code.Views.{spec_of, entry_of}
use Rattle.asm_check.specs.Numbers.{elements_of}
use Rattle.asm_check.specs.Shapes.{texts_of, entry_by}
use Rattle.asm_check.proofs.numbers.declared_signature.entries_of.Given as goal

abbrev pub invariant-loop-entry : goal.invariant-loop-entry
invariant-loop-entry l =
    l.all.items ++ map (entry_by (texts_of (elements_of (spec_of l.numbered.spec.now)))) (map entry_of (drop l.entry-index l.entries)) ≡ map (entry_by (texts_of (elements_of (spec_of l.numbered.spec.now)))) (map entry_of l.entries)
