use Rattle.std.proofs.Common.{◌≡◌, ◌≤◌, ◌++◌, length, drop}
use Rattle.std.specs.String.{string_bytes}
use Rattle.asm_reader.specs.ScriptText.{max_script}
use Rattle.asm_explore.specs.WrittenScripts.{AnyIsLong, AreShort, dotted}
use Rattle.asm_explore.proofs.scripts.writing.add_dotted.Given as goal

-- what is left leads to the whole
abbrev pub invariant-loop-i : goal.invariant-loop-i
invariant-loop-i l = record {
  text : string_bytes l.text ++ dotted (drop l.i l.numbers) ≡ string_bytes l.initial.text ++ dotted l.numbers;
  fits : length (string_bytes l.text) ≤ max_script;
  short : AreShort (drop l.i l.numbers) → AreShort l.numbers;
  long : AnyIsLong (drop l.i l.numbers) → AnyIsLong l.numbers;
}
