use Rattle.asm_run.proofs.TextLemmas.ArgumentTexts.{numbers_grow}
use Rattle.asm_run.proofs.locations.push_numbers.Goals as goal

pub loop-i-preserved : goal.loop-i-preserved
loop-i-preserved c =
    numbers_grow c.args.first c.args.rest.now c.loop-i.i c.args.out.now.items _ _ _
    c.loop-i-test.true c.loop-i.invariant c.in_ok-push_text.ensures.ok c.in_ok-push_count-2.ensures.ok
