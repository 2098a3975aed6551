use Rattle.std.proofs.Common.{◌-◌, ◌≤◌, length, take, IsFalse}
use Rattle.std.specs.Io.KnownBytes.{Appends}
use Rattle.asm_run.proofs.write_all.write_all.Given as goal

-- the bytes grew by what is written so far, and no write failed
abbrev pub invariant-loop-written : goal.invariant-loop-written
invariant-loop-written g l = record {
  within : l.written ≤ length l.text;
  sound : IsFalse (g.S.Sink.has_failed l.out);
  grown : Appends (g.S.Sink.bytes l.initial.out) (g.S.Sink.bytes l.out) (take l.written l.text);
}

abbrev pub decreases-loop-written : goal.decreases-loop-written
decreases-loop-written g l = length l.text - l.written
