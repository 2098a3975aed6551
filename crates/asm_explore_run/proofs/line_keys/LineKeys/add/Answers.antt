use Rattle.asm_explore_run.proofs.KeySets.{kept_in_step, kept_in_every_step}
use Rattle.asm_explore_run.proofs.line_keys.LineKeys.add.Goals as goal

pub returns-in_ok-insert-in-Step-clause-kept : goal.returns-in_ok-insert-in-Step-clause-kept
returns-in_ok-insert-in-Step-clause-kept c = kept_in_step c.in_ok-key.key.items c.args.self.now c.insert.new.self c.in_ok-insert-in-Step.ensures.updates

pub returns-in_ok-insert-in-EveryStep-clause-kept : goal.returns-in_ok-insert-in-EveryStep-clause-kept
returns-in_ok-insert-in-EveryStep-clause-kept c =
    kept_in_every_step c.in_ok-key.key.items c.args.self.now c.insert-in-EveryStep.new.self c.in_ok-insert-in-EveryStep.ensures.updates
