use Rattle.std.proofs.Common.{◌≡◌, ◌++◌, All}
use Rattle.std.specs.Prelude.{IsOk}
use Rattle.std.specs.Vec.Iter.{into_iter_items}
use Rattle.asm_run.specs.code.Rounds.{outs_of, least_of_all, new_pieces, count_instances}
use Rattle.asm_run.proofs.rounds.collect.Given as goal

abbrev pub invariant-loop-out : goal.invariant-loop-out
invariant-loop-out l = record {
  ok : All IsOk (into_iter_items l.out-iterator) → All IsOk l.fn.outs.items;
  next : l.next.items ++ new_pieces (outs_of (into_iter_items l.out-iterator)) ≡ new_pieces (outs_of l.fn.outs.items);
  counted : count_instances l.counted (outs_of (into_iter_items l.out-iterator)) ≡ count_instances l.fn.instances (outs_of l.fn.outs.items);
  least : least_of_all l.least (outs_of (into_iter_items l.out-iterator)) ≡ least_of_all l.fn.exhausted (outs_of l.fn.outs.items);
}
