use Rattle.std.proofs.Common.{arith}
use Rattle.asm_syntax.specs.code.Views.{item_of}
use Rattle.asm_check.proofs.NameLemmas.RepeatedParameters.{parameters_step}
use Rattle.asm_check.proofs.names.first_names.note_parameters.Goals as goal

pub loop-item-preserved : goal.loop-item-preserved
loop-item-preserved c =
    parameters_step item_of _ _ _ c.args.items.now c.loop-item.item-index c.item-item.result _ (omega arith) c.item-item.is c.loop-item.invariant c.parameters.ensures c.in_ok-note_repeats.ensures
