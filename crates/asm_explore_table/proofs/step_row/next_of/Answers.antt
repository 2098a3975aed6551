use Rattle.std.proofs.Common.{◌∙◌, Some, ap, subst, sym}
use Rattle.asm_state.specs.Signature.{state_of}
use Rattle.asm_step.specs.code.Steps.{Comes}
use Rattle.asm_explore_table.specs.Rows.{led}
use Rattle.asm_explore_table.proofs.LedSteps.{led_nowhere, led_on}
use Rattle.asm_explore_table.proofs.step_row.next_of.Goals as goal

pub returns-in-Next : goal.returns-in-Next
returns-in-Next c shape yields old is made =
    let comes = subst (Comes shape yields old) c.in-Next.is made in
    let A = state_of shape old in
    (comes.1 is, ap (λ B. Some B) comes.5 ∙ sym (led_on c.test_laws.ensures A comes.2 comes.4) ∙ ap (led A) (sym comes.3))

pub returns-in-Faulty : goal.returns-in-Faulty
returns-in-Faulty c shape yields old is made =
    let comes = subst (Comes shape yields old) c.in-Faulty.is made in
    let A = state_of shape old in
    (tt, sym (led_nowhere c.test_laws.ensures A comes.0 comes.2) ∙ ap (led A) (sym comes.1))
