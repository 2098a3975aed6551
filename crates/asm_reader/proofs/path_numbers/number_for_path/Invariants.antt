use Rattle.std.proofs.Common.{◌+◌, ◌≤◌, length, take}
use Rattle.asm_reader.specs.code.PathNumbers.{HasPathNumber}
use Rattle.asm_reader.proofs.path_numbers.number_for_path.Given as goal

-- The place of the path of the numbers so far, and that each led to one new place at most.
abbrev pub invariant-loop-number : goal.invariant-loop-number
invariant-loop-number l = record {
  placed : HasPathNumber l.fn.ways.entries (take l.number-index l.path) l.path_number l.ways.entries;
  room : length l.ways.entries ≤ length l.fn.ways.entries + l.number-index;
}
