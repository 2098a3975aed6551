use Rattle.std.proofs.Common.{◌≡◌, take, map}
use Rattle.std.specs.Prelude.{filter_map}
use Rattle.asm_syntax.specs.SourceTree.{Spec}
use Rattle.asm_syntax.specs.code.Views.{item_of}
use Rattle.asm_check.specs.Errors.{found_of}
use Rattle.asm_check.specs.Faults.{init_of}
use Rattle.asm_check.specs.code.LeastFaults.{least_after}
use Rattle.asm_check.specs.code.uses.MainRules.{main_rule_faults, is_any}
use Rattle.asm_check.specs.code.names.Tables.{IsTableOf}
use Rattle.asm_check.proofs.uses.main_rule.note_main_rules.Given as goal

abbrev pub invariant-loop-item : goal.invariant-loop-item
invariant-loop-item l =
    (l.is_named ≡ is_any (filter_map init_of (map item_of (take l.item-index l.items))))
    × ((spec : Spec) → IsTableOf spec l.names → found_of l.least.found ≡ least_after (found_of l.fn.least.found) (main_rule_faults spec (filter_map init_of (map item_of (take l.item-index l.items)))))
