use Rattle.std.proofs.Common.{Some, None, sym, subst}
use Rattle.asm_state.specs.Signature.{state_of}
use Rattle.asm_syntax.specs.code.Views.{spec_of}
use Rattle.asm_check.specs.Shapes.{shape_of}
use Rattle.asm_meaning.specs.Declarations.{specification_of}
use Rattle.asm_meaning.specs.Run.{step}
use Rattle.asm_step.specs.code.Steps.{Comes}
use Rattle.asm_explore.specs.code.StepLeads.{LeadsTo}
use Rattle.asm_explore.proofs.StepLeads.{exhausted_leads}
use Rattle.asm_explore.proofs.choices.run_choices.make_step.Goals as goal

pub returns-in-Next-clause-whole : goal.returns-in-Next-clause-whole
returns-in-Next-clause-whole g c =
    let a = c.args in
    let s = spec_of a.checked.now.spec in
    let shape = shape_of s in
    let A = state_of shape a.state.now in
    let yields = (step (specification_of s) a.turns (g.P.Picks.script a.choices.now.script.now) a.choices.now.step A).result in
    let comes = subst (Comes shape yields a.state.now) c.in-Next.is c.in_ok-made.ensures in
    comes.0

pub returns-in-Next-clause-leads : goal.returns-in-Next-clause-leads
returns-in-Next-clause-leads g c =
    let a = c.args in
    let s = spec_of a.checked.now.spec in
    let shape = shape_of s in
    let A = state_of shape a.state.now in
    let yields = (step (specification_of s) a.turns (g.P.Picks.script a.choices.now.script.now) a.choices.now.step A).result in
    let comes = subst (Comes shape yields a.state.now) c.in-Next.is c.in_ok-made.ensures in
    subst (λ it. LeadsTo shape A it (Some c.in-Next.next)) (sym comes.3) (comes.4, comes.5)

pub returns-in-Faulty-clause-leads : goal.returns-in-Faulty-clause-leads
returns-in-Faulty-clause-leads g c =
    let a = c.args in
    let s = spec_of a.checked.now.spec in
    let shape = shape_of s in
    let A = state_of shape a.state.now in
    let yields = (step (specification_of s) a.turns (g.P.Picks.script a.choices.now.script.now) a.choices.now.step A).result in
    let comes = subst (Comes shape yields a.state.now) c.in-Faulty.is c.in_ok-made.ensures in
    subst (λ it. LeadsTo shape A it None) (sym comes.1) comes.2

pub returns-clause-leads : goal.returns-clause-leads
returns-clause-leads g c =
    let a = c.args in
    let s = spec_of a.checked.now.spec in
    let shape = shape_of s in
    let A = state_of shape a.state.now in
    let yields = (step (specification_of s) a.turns (g.P.Picks.script a.choices.now.script.now) a.choices.now.step A).result in
    let comes = subst (Comes shape yields a.state.now) c.in-Exhausted.is c.in_ok-made.ensures in
    exhausted_leads shape A yields c.in-Exhausted.field-0 comes
