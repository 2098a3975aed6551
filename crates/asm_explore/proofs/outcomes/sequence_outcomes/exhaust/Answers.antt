use Rattle.std.proofs.Common.{subst}
use Rattle.asm_explore.specs.code.Sequences.{Exhausts}
use Rattle.asm_explore.proofs.OutcomeLemmas.SequenceOutcomes.{all_exhausted}
use Rattle.asm_explore.proofs.outcomes.sequence_outcomes.exhaust.Goals as goal

pub returns : goal.returns
returns c =
    let adds = subst (λ fs. Exhausts c.args.path.now c.args.sorted.done.items fs c.exhaust_each.new.done.items) c.as_slice.ensures.value c.in_ok-exhaust_each.ensures.exhausts in
    record {
      lists = λ shape A total left ends under. all_exhausted shape A total left c.args.path.now ends c.args.sorted.done.items c.args.sorted.more.items c.exhaust_each.new.done.items under adds;
      placed = λ q both. adds.placed q both.0 both.1;
      chosen = adds.chosen;
      crowd = tt;
    }
