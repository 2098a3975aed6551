use Rattle.std.proofs.Common.{take}
use Rattle.asm_syntax.specs.code.Views.{spec_of}
use Rattle.asm_run.specs.Written.{names_in}
use Rattle.asm_explore_texts.specs.Comments.{lines_of}
use Rattle.asm_explore_run.specs.ClashText.{AreLinesOf}
use Rattle.asm_explore_run.proofs.shown_assignments.lines_of.Given as goal

-- the lines of the first assignments
abbrev pub invariant-loop-k : goal.invariant-loop-k
invariant-loop-k l = AreLinesOf l.text (names_in (spec_of l.checked.spec)) l.end (take l.k l.assignments) (lines_of l.lines.items)
