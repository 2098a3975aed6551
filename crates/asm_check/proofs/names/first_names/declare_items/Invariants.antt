use Rattle.std.proofs.Common.{take, map}
use Rattle.asm_syntax.specs.code.Views.{item_of}
use Rattle.asm_check.specs.Errors.{found_of}
use Rattle.asm_check.specs.code.names.Gathering.{Gathers}
use Rattle.asm_check.specs.Names.{declarations_from}
use Rattle.asm_check.proofs.names.first_names.declare_items.Given as goal

abbrev pub invariant-loop-k : goal.invariant-loop-k
invariant-loop-k l =
    Gathers (declarations_from 0 (map item_of (take l.k l.items))) l.fn.names (found_of l.fn.least.found) l.names (found_of l.least.found)
