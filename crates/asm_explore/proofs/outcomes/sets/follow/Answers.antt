use Rattle.asm_state.specs.Updates.{merge}
use Rattle.asm_explore.proofs.OutcomeLemmas.MarkedSets.{joined_marked}
use Rattle.asm_explore.proofs.outcomes.sets.follow.Goals as goal

pub invariant_of-result : goal.invariant_of-result
invariant_of-result c = record {
  marked = joined_marked c.args.updates.set c.args.later.now.set c.merge_with.new.self merge c.len-len.ensures.sound c.len-later.ensures.sound c.args.updates.marked c.args.later.now.marked
      c.requires c.in_ok-merge_with.ensures.changes.count c.in_ok-merge_with.ensures.merge;
}
