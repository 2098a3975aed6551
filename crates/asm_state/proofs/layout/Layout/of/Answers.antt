use Rattle.std.proofs.Common.{◌≡◌, length, arith}
use Rattle.asm_state.proofs.LayoutsSoFar.{step_up, whole_layout}
use Rattle.asm_state.proofs.layout.Layout.of.Goals as goal

pub loop-f-preserved : goal.loop-f-preserved
loop-f-preserved c =
    step_up (record { universes = c.args.universes.now; functions = c.args.functions.now }) c.loop-f.f c.index-functions-f.result c.loop-f.layout c.push.new.self
    c.loop-f.invariant c.loop-f-test.true c.index-functions-f.is c.in_ok-push.ensures

pub returns : goal.returns
returns c =
    let all : c.loop-f.f ≡ length c.args.functions.now = omega (arith, c.loop-f-test.false, c.loop-f.auto.f-end) in
    whole_layout (record { universes = c.args.universes.now; functions = c.args.functions.now }) c.loop-f.f c.loop-f.layout
    c.check_universes.ensures.sound c.requires all c.loop-f.invariant
