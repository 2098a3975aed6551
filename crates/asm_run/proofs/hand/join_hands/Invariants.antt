use Rattle.std.proofs.Common.{◌≡◌, ◌+◌, ◌++◌, All}
use Rattle.std.specs.Vec.Iter.{into_iter_items}
use Rattle.asm_run.specs.code.Hands.{logs_of, parts_of}
use Rattle.asm_run.proofs.hand.join_hands.Given as goal

abbrev pub invariant-loop-hand : goal.invariant-loop-hand
invariant-loop-hand l = record {
  table : l.seat.table ≡ l.striped.table;
  tables : All (λ h. h.seat.table ≡ l.striped.table) (into_iter_items l.hand-iterator);
  parts : l.seat.parts + parts_of (into_iter_items l.hand-iterator) ≡ l.initial.seat.parts + parts_of l.fn.hands.items;
  log : l.seat.log ++ logs_of (into_iter_items l.hand-iterator) ≡ l.initial.seat.log ++ logs_of l.fn.hands.items;
}
