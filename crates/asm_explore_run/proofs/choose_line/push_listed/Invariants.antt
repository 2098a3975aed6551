use Rattle.std.proofs.Common.{◌≡◌, ◌++◌, take}
use Rattle.asm_syntax.specs.code.Views.{spec_of}
use Rattle.asm_run.specs.Written.{names_in}
use Rattle.asm_explore_run.specs.ChoicesText.{listed}
use Rattle.asm_explore_run.proofs.choose_line.push_listed.Given as goal

-- the values so far
abbrev pub invariant-loop-i : goal.invariant-loop-i
invariant-loop-i l = l.line.items ≡ l.fn.line.items ++ listed (names_in (spec_of l.checked.spec)) l.taken (take l.i l.values)
