use Rattle.std.proofs.Common.{◌+◌, ◌%◌, sym, subst, arith}
use mathlib.Core.Option.{none}
use Rattle.atomic_table.specs.Table.{Allows, step}
use Rattle.asm_pool.specs.declared.lanes.LaneCounts.{LaneCounts}
use Rattle.asm_pool.specs.code.Lanes.{IsLaneState, IsDrawn}
use Rattle.asm_pool.proofs.LaneSteps.{draws}
use Rattle.asm_pool.proofs.lanes.Lanes.draw.Goals as goal

pub fetch_add-requires : goal.fetch_add-requires
fetch_add-requires c =
    let it = c.args.self.now in
    let me = c.args.seat.now in
    let slots = it.table.shared.table_id.slots in
    let turn = draws it.shape.lanes it.shape.count slots me.id c.args.lane me.me it.some.1 it.room c.requires.lane c.requires.seat.2 c.requires.part in (
      c.requires.seat.0,
      omega (arith, it.wide, c.requires.lane),
      subst (λ (k : LaneCounts). Allows (λ s. IsLaneState k.lanes k.count s.words s.views) slots me.id me.me c.args.lane (λ n. (n + 1) % 18446744073709551616) (IsDrawn (step slots c.args.lane 1 0 none) me.me)) (sym it.keyed) turn,
    )
