use Rattle.std.proofs.Common.{inr, subst}
use Rattle.asm_step.specs.code.Steps.{Comes}
use Rattle.asm_random.specs.code.ResolvedRuns.{shape_in, specification_in}
use Rattle.asm_meaning.specs.Run.{step}
use Rattle.asm_state.specs.Signature.{state_of}
use Rattle.asm_random.proofs.drawn_run.step_on.Goals as goal

pub returns-in-Next : goal.returns-in-Next
returns-in-Next g c =
    let m = c.args.specified.now in
    let yields = (step (specification_in m) m.turns (g.P.Picks.script c.args.choices.now.script.now) c.args.choices.now.step (state_of (shape_in m) c.args.state.now)).result in
    let comes = subst (Comes (shape_in m) yields c.args.state.now) c.in-Next.is c.in_ok-next.ensures in
    (comes.1 c.requires.state, (comes.2, comes.3, comes.4, comes.5))

pub returns-in-Faulty : goal.returns-in-Faulty
returns-in-Faulty g c =
    let m = c.args.specified.now in
    let yields = (step (specification_in m) m.turns (g.P.Picks.script c.args.choices.now.script.now) c.args.choices.now.step (state_of (shape_in m) c.args.state.now)).result in
    let comes = subst (Comes (shape_in m) yields c.args.state.now) c.in-Faulty.is c.in_ok-next.ensures in
    inr (comes.0, comes.1, comes.2)
