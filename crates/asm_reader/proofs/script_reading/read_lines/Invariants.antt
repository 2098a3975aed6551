use Rattle.std.proofs.Common.{◌+◌, ◌≤◌, length, map, take}
use Rattle.std.specs.Str.Lines.{strip_carriage_return}
use Rattle.asm_reader.specs.code.PathNumbers.{Says}
use Rattle.asm_reader.specs.ScriptText.{AreFaultless, max_script, script_in}
use Rattle.asm_reader.proofs.ScriptLemmas.Sizes.{bytes_from}
use Rattle.asm_reader.proofs.script_reading.read_lines.Given as goal

-- The lines so far have no fault, what they say is found, and they led to no more places than they
-- have bytes.
abbrev pub invariant-loop-i : goal.invariant-loop-i
invariant-loop-i l = record {
  faultless : AreFaultless (map (λ l. strip_carriage_return l.now) (take l.i l.lines));
  says : Says l.places (script_in (map (λ l. strip_carriage_return l.now) (take l.i l.lines)));
  room : length l.places.ways.entries + bytes_from l.lines l.i ≤ max_script + 1;
}
