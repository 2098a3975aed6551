use Rattle.std.proofs.Common.{◌≡◌, ◌≤◌, filter, length, take}
use Rattle.asm_eval.specs.code.Evaluation.{is_passing}
use Rattle.asm_eval.proofs.choose.find_candidate.Given as goal

-- `met` candidates are among the values so far, and the one that is looked for isn't
abbrev pub invariant-loop-i : goal.invariant-loop-i
invariant-loop-i l = record {
  counted : l.met ≡ length (filter (is_passing l.view l.frame l.test) (take l.i l.universe));
  behind : l.met ≤ l.number;
}
