use Rattle.std.proofs.Common.{◌≡◌, map, Some}
use Rattle.asm_reader.specs.ScriptText.{numbers_of}
use Rattle.asm_reader.proofs.script_line.path.Given as goal

-- the numbers of the parts so far
abbrev pub invariant-loop-digits : goal.invariant-loop-digits
invariant-loop-digits l = numbers_of (map (λ d. d.now) l.yielded) ≡ Some l.numbers.items
