use Rattle.std.proofs.Common.{◌≡◌, ◌≤◌, ◌+◌, ◌*◌, ◌^◌, length}
use Rattle.asm_syntax.specs.code.Keys.{packed, AreBytes}
use Rattle.asm_syntax.proofs.name_text.packed.Given as goal

abbrev pub invariant-loop-rest : goal.invariant-loop-rest
invariant-loop-rest l = record {
  key : packed l.key l.rest ≡ packed 0 l.bytes;
  room : 256 ^ length l.rest * (l.key + 1) ≤ 256 ^ 8;
  bytes : AreBytes l.rest;
}

abbrev pub decreases-loop-rest : goal.decreases-loop-rest
decreases-loop-rest l = length l.rest
