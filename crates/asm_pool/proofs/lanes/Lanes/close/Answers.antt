use Rattle.std.proofs.Common.{subst}
use Rattle.asm_pool.specs.declared.lanes.LaneCounts.{LaneCounts}
use Rattle.asm_pool.specs.code.Lanes.{IsLaneState}
use Rattle.asm_pool.proofs.LaneSteps.{sole}
use Rattle.asm_pool.proofs.lanes.Lanes.close.Goals as goal

pub returns : goal.returns
returns c =
    let it = c.args.self in
    let last = c.close_with.ensures.values.2 in
    let s = last.0 in
    sole it.shape.lanes it.shape.count s.words s.views (subst (λ (k : LaneCounts). IsLaneState k.lanes k.count s.words s.views) it.keyed last.1.0) c.args.seat.id c.args.seat.me.0 last.1.1 c.requires.parts
