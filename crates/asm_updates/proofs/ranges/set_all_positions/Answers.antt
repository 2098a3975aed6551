use Rattle.std.proofs.Common.{ℕ, eqb, cond, ap, sym, ◌∙◌, rules}
use Rattle.asm_state.specs.declared.value.Value.{Value}
use Rattle.asm_updates.specs.code.Positions.{position_of}
use Rattle.asm_updates.proofs.IndexedRanges.{placed_more, key_at}
use Rattle.asm_updates.proofs.ranges.set_all_positions.Goals as goal

pub loop-i-preserved : goal.loop-i-preserved
loop-i-preserved c =
    let es = c.args.entries.now in
    let e = c.index-entries-i.result in
    placed_more es c.loop-i.i e.0 (position_of c.loop-i.positions) (position_of c.set_position.new.self) c.requires
    (c.loop-i-test.true, key_at es c.loop-i.i e c.loop-i-test.true c.index-entries-i.is)
    (λ k. c.set_position.ensures (search rules) k ∙ ap (λ (x : ℕ × (Value × Value)). cond (eqb k x.0) c.loop-i.i (position_of c.loop-i.positions k)) (sym c.index-entries-i.is)) c.loop-i.invariant
