use Rattle.std.proofs.Common.{refl, false, true}
use Rattle.asm_check.specs.Names.{declared}
use Rattle.asm_check.specs.code.uses.UseViews.{use_of}
use Rattle.asm_check.proofs.CycleLemmas.StepsCollected.{stepping_there, step_there}
use Rattle.asm_check.proofs.cycles.declaration_bodies.step.Goals as goal

pub returns-then-not-may_be_step-clause-step : goal.returns-then-not-may_be_step-clause-step
returns-then-not-may_be_step-clause-step c = λ spec table. c.if-not-may_be_step.ensures refl c.args.used.is_bound (declared spec c.args.used.name.now.text)

pub returns-then-is_step-clause-step : goal.returns-then-is_step-clause-step
returns-then-is_step-clause-step c = λ spec table.
    step_there spec c.args.in_rule (use_of c.args.used) c.position.result (stepping_there spec c.args.in_rule (use_of c.args.used) _ true (c.meaning-declared.ensures spec table) c.if-is_step.ensures)
    (c.position.ensures.missing spec table)

pub returns-else-is_step-clause-step : goal.returns-else-is_step-clause-step
returns-else-is_step-clause-step c = λ spec table. stepping_there spec c.args.in_rule (use_of c.args.used) _ false (c.meaning-declared.ensures spec table) c.if-is_step.ensures
