use Rattle.std.specs.Prelude.{◌≡◌, length, take, drop}
use Rattle.asm_eval.proofs.block.elements_from.Given as goal

abbrev pub invariant-loop-k : goal.invariant-loop-k
invariant-loop-k l = record {
  room : length l.elements ≡ 16;
  so_far : take l.k l.elements ≡ take l.k (drop l.from l.universe);
}
