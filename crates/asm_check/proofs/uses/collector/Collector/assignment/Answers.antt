use Rattle.std.proofs.Common.{◌≡◌, length}
use Rattle.asm_check.proofs.UseLemmas.CollectorSteps.{on_ok, adds_assigned}
use Rattle.asm_check.proofs.uses.collector.Collector.assignment.Goals as goal

pub returns : goal.returns
returns c =
    let ok = c.args.arguments.now.ok in
    let len = c.len.ensures in
    let count : c.len.result ≡ length c.args.arguments.now.items = cc in
    on_ok _ (adds_assigned c.args.name.now c.args.arguments.now.items c.args.value.now c.len.result _ _ _ _ count c.in_ok-add.ensures c.in_ok-terms.ensures) c.term.ensures
