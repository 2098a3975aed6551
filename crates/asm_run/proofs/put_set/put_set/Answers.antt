use Rattle.std.proofs.Common.{◌∙◌}
use Rattle.asm_striped.specs.code.Log.{put_of}
use Rattle.asm_striped.specs.code.Seats.{after_put}
use Rattle.asm_run.proofs.RoundLemmas.Putting.{one_more}
use Rattle.asm_run.proofs.put_set.put_set.Goals as goal

pub loop-i-preserved : goal.loop-i-preserved
loop-i-preserved c =
    let e = c.entry_at-n.result in
    one_more c.args.seat.now c.loop-i.seat c.put.new.seat c.args.task c.loop-i.i c.args.set.now.ranges (e.0, (e.1, e.2)) c.put.result.low_before c.put.result.high_before
    c.entry_at-n.ensures.position
    (c.put.ensures.seat ∙ (λ i. after_put c.loop-i.seat (put_of c.args.task e.0 (c.code.ensures.code i) (c.code-in-loop-i.ensures.code i)) c.put.result.low_before c.put.result.high_before))
    c.loop-i.invariant
