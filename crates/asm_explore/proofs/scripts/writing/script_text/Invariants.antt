use Rattle.std.proofs.Common.{◌≡◌, ◌≤◌, ◌++◌, length, drop}
use Rattle.std.specs.String.{string_bytes}
use Rattle.asm_reader.specs.ScriptText.{max_script}
use Rattle.asm_explore.specs.WrittenScripts.{lines_said, AnyIsLong, AreShort, lines_text, numbers_in, written}
use Rattle.asm_explore.proofs.scripts.writing.script_text.Given as goal

-- what is left leads to the whole
abbrev pub invariant-loop-i : goal.invariant-loop-i
invariant-loop-i l = record {
  text : string_bytes l.text ++ lines_text (written l.zeros (lines_said (drop l.i l.lines))) ≡ lines_text (written l.zeros (lines_said l.lines));
  fits : length (string_bytes l.text) ≤ max_script;
  short : AreShort (numbers_in (written l.zeros (lines_said (drop l.i l.lines)))) → AreShort (numbers_in (written l.zeros (lines_said l.lines)));
  long : AnyIsLong (numbers_in (written l.zeros (lines_said (drop l.i l.lines)))) → AnyIsLong (numbers_in (written l.zeros (lines_said l.lines)));
}
