use Rattle.std.proofs.Common.{◌≡◌, ◌+◌, All, vec_len}
use Rattle.asm_run.specs.code.Hands.{IsNewHand}
use Rattle.asm_run.proofs.hand.split_hands.Given as goal

abbrev pub invariant-loop-i : goal.invariant-loop-i
invariant-loop-i l = record {
  table : l.seat.table ≡ l.striped.table;
  parts : l.seat.parts + l._i ≡ l.workers + 1;
  log : l.seat.log ≡ l.initial.seat.log;
  len : vec_len l.hands ≡ l._i;
  hands : All (IsNewHand l.signature l.striped.table) l.hands.items;
}
