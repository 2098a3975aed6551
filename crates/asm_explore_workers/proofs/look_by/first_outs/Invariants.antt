use Rattle.std.proofs.Common.{◌≡◌, ◌++◌}
use Rattle.std.specs.Vec.Iter.{into_iter_items}
use Rattle.asm_explore_workers.specs.code.Batches.{firsts}
use Rattle.asm_explore_workers.proofs.look_by.first_outs.Given as goal

-- what was found so far, and what the others found, is all that was found
abbrev pub invariant-loop-out : goal.invariant-loop-out
invariant-loop-out l = l.all.items ++ firsts (into_iter_items l.out-iterator) ≡ firsts l.fn.outs.items
