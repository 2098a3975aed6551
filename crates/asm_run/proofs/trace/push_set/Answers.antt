use Rattle.asm_syntax.specs.code.Views.{spec_of}
use Rattle.asm_run.proofs.TextLemmas.ArgumentTexts.{entries_grow}
use Rattle.asm_run.proofs.trace.push_set.Goals as goal

pub loop-i-preserved : goal.loop-i-preserved
loop-i-preserved c =
    let it = c.entry_at-n.result in (
      entries_grow (spec_of c.args.checked.now.spec) c.args.set.now.ranges c.loop-i.i (it.0, (it.1, it.2)) c.args.out.now.items _ _ c.entry_at-n.ensures.position c.loop-i.invariant.0
          c.in_ok-push_update.ensures.line,
      c.in_ok-push_update.ensures.known,
    )
