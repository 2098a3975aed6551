use Rattle.std.proofs.Common.{◌≡◌, ◌++◌, take}
use Rattle.asm_syntax.specs.code.Views.{spec_of}
use Rattle.asm_run.specs.code.WrittenEntries.{AreTextsOf, entries_text}
use Rattle.asm_run.proofs.trace.push_set.Given as goal

abbrev pub invariant-loop-i : goal.invariant-loop-i
invariant-loop-i l =
    (l.out.items ≡ l.initial.out.items ++ entries_text (spec_of l.checked.spec) (take l.i l.set.ranges))
    × AreTextsOf (spec_of l.checked.spec) l.texts
