use Rattle.std.proofs.Common.{drop}
use Rattle.asm_explore_run.specs.ClashText.{AreApart}
use Rattle.asm_explore_run.specs.code.NameOffsets.{offsets}
use Rattle.asm_explore_run.proofs.assignment_line.are_apart.Given as goal

-- all are apart if those that follow are
abbrev pub invariant-loop-i : goal.invariant-loop-i
invariant-loop-i l = AreApart (offsets (drop l.i l.names)) → AreApart (offsets l.names)
