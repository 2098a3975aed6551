use Rattle.std.proofs.Common.{◌≡◌, [], map, take}
use Rattle.asm_syntax.specs.code.Views.{item_of}
use Rattle.asm_check.proofs.CheckedCalls.{inits_in}
use Rattle.asm_check.proofs.checked.main_name_of.Given as goal

abbrev pub invariant-loop-item : goal.invariant-loop-item
invariant-loop-item l = inits_in (map item_of (take l.item-index l.item-items)) ≡ []
