use Rattle.std.proofs.Common.{◌≡◌}
use Rattle.asm_explore.proofs.same_result.link_last.Given as goal

-- the list isn't changed
abbrev pub invariant-loop-depth : goal.invariant-loop-depth
invariant-loop-depth l = l.found.items ≡ l.initial.found.items
