use Rattle.asm_explore.proofs.same_result.is_known.Given as goal

abbrev pub invariant-loop-depth : goal.invariant-loop-depth
invariant-loop-depth l = Unit {0}
