use Rattle.std.proofs.Common.{◌*◌, ◌≤◌}
use Rattle.asm_random.specs.FineRuns.{AreFine}
use Rattle.asm_random.specs.code.ResolvedRuns.{crowds_in, rests_in, right_in, specification_in}
use Rattle.asm_random.proofs.random.runs_of.Given as goal

abbrev pub invariant-loop-number : goal.invariant-loop-number
invariant-loop-number g l =
    let m = l.specified in
    record {
      fine : AreFine (specification_in m) m.turns (crowds_in m) l.question.steps (right_in m) (rests_in m) l.number l.made;
      few : l.made ≤ l.number * 4_294_967_295;
    }
