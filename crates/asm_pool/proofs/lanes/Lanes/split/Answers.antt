use Rattle.std.proofs.Common.{◌-◌, ◌/◌, [], sym, subst, arith}
use Rattle.atomic_table.specs.Table.{Splits}
use Rattle.asm_pool.specs.declared.lanes.LaneCounts.{LaneCounts}
use Rattle.asm_pool.specs.code.Lanes.{IsLaneState, seat_view}
use Rattle.asm_pool.proofs.LaneSteps.{splits}
use Rattle.asm_pool.proofs.lanes.Lanes.split.Goals as goal

pub split_seat-requires : goal.split_seat-requires
split_seat-requires c =
    let it = c.args.self.now in
    let me = c.args.seat.now in
    let v = me.me.0 in (
      c.requires.seat.0,
      omega (arith, it.wide, it.some.0),
      subst (λ (k : LaneCounts). Splits (λ s. IsLaneState k.lanes k.count s.words s.views) me.id v (seat_view v.lanes (v.parts - v.parts / 2) v.drawn) (seat_view v.lanes (v.parts / 2) [])) (sym it.keyed)
          (splits it.shape.lanes it.shape.count me.id v c.requires.none c.requires.parts),
    )
