use Rattle.std.proofs.Common.{◌+◌, ◌++◌, [], sym, subst, arith}
use Rattle.atomic_table.specs.Table.{Joins}
use Rattle.asm_pool.specs.declared.lanes.LaneCounts.{LaneCounts}
use Rattle.asm_pool.specs.code.Lanes.{IsLaneState, seat_view}
use Rattle.asm_pool.proofs.LaneSteps.{joins}
use Rattle.asm_pool.proofs.lanes.Lanes.join.Goals as goal

pub join_seat-requires : goal.join_seat-requires
join_seat-requires c =
    let it = c.args.self.now in
    let me = c.args.seat.now in
    let v = me.me.0 in
    let w = c.args.other.me.0 in (
      c.requires.seat.0,
      c.requires.other.0,
      c.requires.other.1,
      omega (arith, it.wide, it.some.0),
      subst (λ (k : LaneCounts). Joins (λ s. IsLaneState k.lanes k.count s.words s.views) me.id v c.args.other.id w (seat_view v.lanes (v.parts + w.parts) (v.drawn ++ w.drawn)) (seat_view 0 0 [])) (sym it.keyed)
          (joins it.shape.lanes it.shape.count me.id v c.args.other.id w c.requires.seat.2),
    )
