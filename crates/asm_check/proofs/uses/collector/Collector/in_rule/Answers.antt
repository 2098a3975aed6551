use Rattle.std.specs.Prelude.{reverse}
use Rattle.asm_syntax.specs.Tree.{result}
use Rattle.asm_check.specs.code.uses.UseCollector.{binders_of}
use Rattle.asm_check.proofs.UseLemmas.Scopes.{one_more_bound}
use Rattle.asm_check.proofs.uses.collector.Collector.in_rule.Goals as goal

pub returns-clause-bound : goal.returns-clause-bound
returns-clause-bound c =
    let before = c.in_ok-collector.collector in
    one_more_bound (reverse (binders_of before)) before.parameters.keys c.insert.new.self.keys result _ c.in_ok-insert.ensures.updates.0 c.in_ok-collector.ensures.bound
