use Rattle.std.proofs.Common.{◌≡◌, map}
use Rattle.std.specs.Str.Lines.{strip_carriage_return}
use Rattle.asm_explore_texts.specs.RunNumbers.{last_numbers}
use Rattle.asm_explore_texts.proofs.run_numbers.numbers_in.Given as goal

-- the numbers of the lines so far
abbrev pub invariant-loop-line : goal.invariant-loop-line
invariant-loop-line l = last_numbers (map strip_carriage_return (map (λ d. d.now) l.yielded)) ≡ l.found
