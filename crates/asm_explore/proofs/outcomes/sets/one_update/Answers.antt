use Rattle.std.proofs.Common.{refl}
use Rattle.asm_state.specs.Updates.{none}
use Rattle.asm_explore.proofs.outcomes.sets.one_update.Goals as goal

pub returns-clause-one : goal.returns-clause-one
returns-clause-one c = c.in_ok-add.ensures.value c.args.signature.now none refl (c.new-set.ensures.empty c.args.signature.now c.count.ensures.sound c.count.ensures.count)
