use Rattle.std.proofs.Common.{◌≡◌, ◌++◌, [], drop, take}
use Rattle.asm_syntax.specs.code.Views.{spec_of}
use Rattle.asm_run.specs.Written.{names_in}
use Rattle.asm_explore_because.specs.Because.{bound_text}
use Rattle.asm_explore_because.specs.code.CodedParts.{bound_of}
use Rattle.asm_explore_because.proofs.line.push_bound.Given as goal

abbrev pub invariant-loop-i : goal.invariant-loop-i
invariant-loop-i l =
    l.line.items ++ bound_text (names_in (spec_of l.checked.spec)).elements (bound_of (take l.i l.bound)) (bound_of (drop l.i l.bound))
    ≡ l.fn.line.items ++ bound_text (names_in (spec_of l.checked.spec)).elements [] (bound_of l.bound)
