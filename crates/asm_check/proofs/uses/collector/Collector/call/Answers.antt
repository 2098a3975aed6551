use Rattle.std.proofs.Common.{◌≡◌, length}
use Rattle.asm_check.proofs.UseLemmas.CollectorSteps.{on_ok, adds_called}
use Rattle.asm_check.proofs.uses.collector.Collector.call.Goals as goal

pub returns : goal.returns
returns c =
    let ok = c.args.arguments.now.ok in
    let len = c.len.ensures in
    let count : c.len.result ≡ length c.args.arguments.now.items = cc in
    on_ok _ (adds_called _ _ _ c.args.name.now c.args.arguments.now.items c.len.result _ _ _ _ c.rule_role.ensures count c.in_ok-target.ensures c.in_ok-add.ensures) c.terms.ensures
