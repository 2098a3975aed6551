use Rattle.std.proofs.Common.{refl, subst, sym}
use Rattle.asm_state.specs.Signature.{state_of}
use Rattle.asm_syntax.specs.code.Views.{spec_of}
use Rattle.asm_check.specs.Shapes.{shape_of}
use Rattle.asm_meaning.specs.Declarations.{specification_of}
use Rattle.asm_meaning.specs.Run.{step}
use Rattle.asm_step.specs.code.Steps.{Comes}
use Rattle.asm_graph.specs.Graphs.{HasFault}
use Rattle.asm_graph.specs.declared.graph.StepFault.TheVariants as kind
use Rattle.asm_graph.proofs.path_graph.state_behind.Goals as goal

pub returns-in-Next-clause-leads : goal.returns-in-Next-clause-leads
returns-in-Next-clause-leads g c =
    let m = c.args.specified.now in
    let s = spec_of m.checked.now.spec in
    let shape = shape_of s in
    let yields = (step (specification_of s) m.turns (g.P.Picks.script c.args.choices.now.script.now) c.args.choices.now.step (state_of shape c.args.state.now)).result in
    let comes = subst (Comes shape yields c.args.state.now) c.in-Next.is c.in_ok-next.ensures in
    record { set = comes.2; gives = comes.3; consistent = comes.4; leads = sym comes.5 }

pub returns-in-Next-clause-state : goal.returns-in-Next-clause-state
returns-in-Next-clause-state g c =
    let m = c.args.specified.now in
    let s = spec_of m.checked.now.spec in
    let shape = shape_of s in
    let yields = (step (specification_of s) m.turns (g.P.Picks.script c.args.choices.now.script.now) c.args.choices.now.step (state_of shape c.args.state.now)).result in
    let comes = subst (Comes shape yields c.args.state.now) c.in-Next.is c.in_ok-next.ensures in
    comes.1 c.requires.state

pub returns-in-Faulty-clause-fault : goal.returns-in-Faulty-clause-fault
returns-in-Faulty-clause-fault g c =
    let m = c.args.specified.now in
    let s = spec_of m.checked.now.spec in
    let shape = shape_of s in
    let yields = (step (specification_of s) m.turns (g.P.Picks.script c.args.choices.now.script.now) c.args.choices.now.step (state_of shape c.args.state.now)).result in
    let comes = subst (Comes shape yields c.args.state.now) c.in-Faulty.is c.in_ok-next.ensures in
    subst (HasFault c.kind_of.result) (sym comes.1) (_, comes.3, c.kind_of.ensures shape)

pub returns-clause-fault : goal.returns-clause-fault
returns-clause-fault g c =
    let m = c.args.specified.now in
    let s = spec_of m.checked.now.spec in
    let shape = shape_of s in
    let yields = (step (specification_of s) m.turns (g.P.Picks.script c.args.choices.now.script.now) c.args.choices.now.step (state_of shape c.args.state.now)).result in
    let comes = subst (Comes shape yields c.args.state.now) c.in-Exhausted.is c.in_ok-next.ensures in
    subst (HasFault kind.Exhausted) (sym comes) refl
