use Rattle.asm_syntax.specs.code.Views.{item_of, name_of}
use Rattle.std.proofs.Common.{◌∙◌, arith, ap}
use Rattle.asm_check.specs.declared.least_fault.LeastFault.{LeastFault}
use Rattle.asm_check.specs.Errors.{found_of}
use Rattle.asm_check.proofs.UseLemmas.MainRuleFaults.{named_any, unnamed_any, named_faults, unnamed_faults}
use Rattle.asm_check.proofs.uses.main_rule.note_main_rules.Goals as goal
use Rattle.asm_check.proofs.uses.main_rule.note_main_rules.Goals.{in-Some, in_default}

pub loop-item-preserved : goal.loop-item-preserved
loop-item-preserved c = elim c.match-init_name.branch [
  | in-Some w ↦ (
    w.is_named-is ∙ named_any item_of c.args.items.now c.loop-item.item-index c.item-item.result (omega arith) c.item-item.is (name_of w.in-Some.name.now) w.in-Some.ensures,
    λ spec table.
        ap (λ (l : LeastFault). found_of l.found) w.least-is
        ∙ named_faults item_of c.args.items.now c.loop-item.item-index c.item-item.result (omega arith) c.item-item.is spec _ _ _ _ (name_of w.in-Some.name.now) w.in-Some.ensures
        c.loop-item.invariant.0 (c.loop-item.invariant.1 spec table) (w.note_main_rule.ensures spec table),
  )
  | in_default w ↦ (
    unnamed_any item_of c.args.items.now c.loop-item.item-index c.item-item.result (omega arith) c.item-item.is c.match-init_name.is_named w.in_default.ensures
        (w.is_named-is ∙ c.loop-item.invariant.0),
    λ spec table.
        ap (λ (l : LeastFault). found_of l.found) w.least-is
        ∙ unnamed_faults item_of c.args.items.now c.loop-item.item-index c.item-item.result (omega arith) c.item-item.is spec _ _ w.in_default.ensures (c.loop-item.invariant.1 spec table),
  )
]
