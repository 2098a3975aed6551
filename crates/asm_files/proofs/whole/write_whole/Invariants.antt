use Rattle.std.proofs.Common.{◌-◌, ◌≤◌, length, take}
use Rattle.std.specs.Io.KnownBytes.{Appends}
use Rattle.asm_files.proofs.whole.write_whole.Given as goal

-- the bytes grew by what is written so far
abbrev pub invariant-loop-written : goal.invariant-loop-written
invariant-loop-written g l = record {
  within : l.written ≤ length l.text;
  grown : Appends (g.E.Sink.bytes l.initial.sink) (g.E.Sink.bytes l.sink) (take l.written l.text);
}

abbrev pub decreases-loop-written : goal.decreases-loop-written
decreases-loop-written g l = length l.text - l.written
