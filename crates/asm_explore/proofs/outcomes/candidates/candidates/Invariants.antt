use Rattle.std.proofs.Common.{◌≡◌, filter, take}
use Rattle.asm_eval.specs.code.Evaluation.{is_passing}
use Rattle.asm_explore.proofs.outcomes.candidates.candidates.Given as goal

-- the candidates among the values so far
abbrev pub invariant-loop-i : goal.invariant-loop-i
invariant-loop-i l = l.found.items ≡ filter (is_passing l.view l.frame l.test) (take l.i l.universe)
