use Rattle.std.proofs.Common.{take, map}
use Rattle.asm_syntax.specs.code.Views.{name_of}
use Rattle.asm_check.specs.Errors.{found_of}
use Rattle.asm_check.specs.code.names.Gathering.{IsSeen}
use Rattle.asm_check.proofs.names.first_names.note_repeats.Given as goal

abbrev pub invariant-loop-name : goal.invariant-loop-name
invariant-loop-name l = IsSeen (found_of l.fn.least.found) (map name_of (take l.name-index l.names)) l.seen.keys (found_of l.least.found)
