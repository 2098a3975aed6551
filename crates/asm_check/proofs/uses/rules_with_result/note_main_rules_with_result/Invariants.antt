use Rattle.std.proofs.Common.{◌≡◌, drop}
use Rattle.std.specs.Prelude.{flat_map}
use Rattle.asm_syntax.specs.code.Views.{spec_of, item_of}
use Rattle.asm_check.specs.Errors.{found_of}
use Rattle.asm_check.specs.code.FaultLists.{main_rule_with_result}
use Rattle.asm_check.specs.code.LeastFaults.{least_after}
use Rattle.asm_check.proofs.uses.rules_with_result.note_main_rules_with_result.Given as goal

-- the faults of the lines that are left make of what is found what all of them make of it
abbrev pub invariant-loop-item : goal.invariant-loop-item
invariant-loop-item l =
    least_after (found_of l.least.found) (flat_map (λ i. main_rule_with_result (spec_of l.spec) (item_of i)) (drop l.item-index l.spec.items.items))
    ≡ least_after (found_of l.initial.least.found) (flat_map (λ i. main_rule_with_result (spec_of l.spec) (item_of i)) l.spec.items.items)
