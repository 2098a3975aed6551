use Rattle.std.proofs.Common.{◌<◌, length, arith}
use Rattle.asm_check.proofs.UseLemmas.Scopes.{one_more_parameter}
use Rattle.asm_check.proofs.uses.collector.Collector.with_parameters.Goals as goal

pub loop-parameter-preserved : goal.loop-parameter-preserved
loop-parameter-preserved c =
    let below : c.loop-parameter.parameter-index < length c.args.parameters.now = omega arith in
    one_more_parameter c.loop-parameter.texts.keys c.insert.new.self.keys c.as_bytes.result c.args.parameters.now c.loop-parameter.parameter-index c.parameter-item.result below c.parameter-item.is c.as_bytes.ensures c.in_ok-insert.ensures.updates.0 c.loop-parameter.invariant
