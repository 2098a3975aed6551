use Rattle.std.proofs.Common.{ℕ, ◌<◌, ap, arith}
use Rattle.asm_state.specs.declared.value.Value.{Value}
use Rattle.asm_updates.proofs.IndexedRanges.{rise_more}
use Rattle.asm_updates.proofs.ranges.are_rising.Goals as goal

pub loop-i-preserved : goal.loop-i-preserved
loop-i-preserved c =
    let d = c.index-entries-i-in-loop-i.result in
    let e = c.index-entries-i.result in
    let less : d.0 < e.0 = omega (arith, c.if-entries-i.false, ap (λ (x : ℕ × (Value × Value)). x.0) c.index-entries-i-in-loop-i.is, ap (λ (x : ℕ × (Value × Value)). x.0) c.index-entries-i.is) in
    rise_more c.args.entries.now c.loop-i.i d e (omega (arith, c.loop-i.auto.i)) c.loop-i-test.true c.index-entries-i-in-loop-i.is c.index-entries-i.is less c.loop-i.invariant
