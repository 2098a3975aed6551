use Rattle.std.proofs.Common.{subst}
use Rattle.asm_explore.specs.code.Sequences.{AddsOutcome}
use Rattle.asm_explore.proofs.OutcomeLemmas.SequenceOutcomes.{closed}
use Rattle.asm_explore.proofs.outcomes.sequence_outcomes.close.Goals as goal

pub returns : goal.returns
returns c =
    let adds = subst (λ fs. AddsOutcome c.args.sorted.done.items fs c.add_each.new.done.items) c.as_slice.ensures.value c.in_ok-add_each.ensures.adds in
    record {
      lists = λ shape A total left ends under. closed shape A total left ends c.args.sorted.done.items c.args.sorted.more.items c.add_each.new.done.items under adds;
      placed = λ q both. adds.placed q both.0 both.1;
      chosen = adds.chosen;
      crowd = tt;
    }
