use Rattle.std.proofs.Common.{length}
use Rattle.asm_arguments.proofs.numbers.+with_numbers.Given as goal

abbrev pub decreases-with_numbers : goal.decreases-with_numbers
decreases-with_numbers l = length l.options.now
