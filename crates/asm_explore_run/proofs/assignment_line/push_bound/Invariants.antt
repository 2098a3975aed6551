use Rattle.std.proofs.Common.{◌≡◌, ◌++◌, [], drop, take}
use Rattle.asm_syntax.specs.code.Views.{spec_of}
use Rattle.asm_run.specs.Written.{names_in}
use Rattle.asm_explore_run.specs.ClashText.{bound_text}
use Rattle.asm_explore_run.specs.code.NameOffsets.{offsets}
use Rattle.asm_explore_run.proofs.assignment_line.push_bound.Given as goal

-- with those that follow it is what it becomes
abbrev pub invariant-loop-i : goal.invariant-loop-i
invariant-loop-i l =
    let shown = names_in (spec_of l.checked.spec) in
    l.line.items ++ bound_text l.text shown (offsets (take l.i l.names)) (offsets (drop l.i l.names)) (drop l.i l.values)
    ≡ l.initial.line.items ++ bound_text l.text shown [] (offsets l.names) l.values
