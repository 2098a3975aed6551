use Rattle.std.proofs.Common.{◌≡◌, take, map}
use Rattle.asm_syntax.specs.code.Views.{item_of}
use Rattle.asm_check.specs.Errors.{found_of}
use Rattle.asm_check.specs.code.names.Gathering.{parameter_faults}
use Rattle.asm_check.specs.code.LeastFaults.{least_after}
use Rattle.asm_check.proofs.names.first_names.note_parameters.Given as goal

abbrev pub invariant-loop-item : goal.invariant-loop-item
invariant-loop-item l = found_of l.least.found ≡ least_after (found_of l.fn.least.found) (parameter_faults (map item_of (take l.item-index l.items)))
