use Rattle.std.proofs.Common.{◌≡◌, Some, take}
use Rattle.asm_reader.specs.code.PathNumbers.{number_of_path}
use Rattle.asm_reader.proofs.path_numbers.PathNumbers.number_of_path.Given as goal

-- where the numbers so far lead
abbrev pub invariant-loop-number : goal.invariant-loop-number
invariant-loop-number l = number_of_path l.self.ways.entries (take l.number-index l.path) ≡ Some l.path_number
