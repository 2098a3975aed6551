use Rattle.asm_syntax.specs.code.Views.{spec_of}
use Rattle.asm_run.specs.Written.{names_in}
use Rattle.asm_run.proofs.TextLemmas.ArgumentTexts.{values_grow}
use Rattle.asm_run.proofs.locations.push_values.Goals as goal

pub loop-value-preserved : goal.loop-value-preserved
loop-value-preserved c =
    values_grow (names_in (spec_of c.args.checked.now.spec)).elements c.args.first c.args.rest.now c.loop-value.value-index c.value-item.result c.args.out.now.items _ _ _
    c.loop-value-test.true c.value-item.is c.loop-value.invariant c.in_ok-push_text.ensures.ok c.in_ok-push_value-2.ensures
