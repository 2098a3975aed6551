use Rattle.std.proofs.Common.{◌<◌, length, map, ◌∙◌, arith}
use Rattle.asm_check.specs.code.uses.UseViews.{use_of}
use Rattle.asm_check.proofs.UseLemmas.CollectorSteps.{one_more_universe}
use Rattle.asm_check.proofs.uses.collector.Collector.domain.Goals as goal

pub loop-name-preserved : goal.loop-name-preserved
loop-name-preserved c =
    let adds = c.in_ok-add_plain.ensures in
    let below : c.loop-name.name-index < length c.args.domain.now = omega arith in record {
      found = one_more_universe c.args.domain.now c.loop-name.name-index c.name-item.result (map use_of c.loop-name.self.found.items) (map use_of c.add_plain.new.self.found.items) _ below c.name-item.is adds.found c.loop-name.invariant.found;
      binders = adds.binders ∙ c.loop-name.invariant.binders;
      parameters = adds.parameters ∙ c.loop-name.invariant.parameters;
    }
