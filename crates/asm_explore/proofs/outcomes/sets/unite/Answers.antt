use Rattle.asm_state.specs.Updates.{together}
use Rattle.asm_explore.proofs.OutcomeLemmas.MarkedSets.{joined_marked}
use Rattle.asm_explore.proofs.outcomes.sets.unite.Goals as goal

pub invariant_of-result : goal.invariant_of-result
invariant_of-result c = record {
  marked = joined_marked c.args.updates.set c.args.other.now.set c.union.new.self together c.len-len.ensures.sound c.len-other.ensures.sound c.args.updates.marked c.args.other.now.marked
      c.requires c.in_ok-union.ensures.changes.count c.in_ok-union.ensures.union;
}
