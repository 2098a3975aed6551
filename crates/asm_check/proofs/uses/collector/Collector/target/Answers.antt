use Rattle.std.proofs.Common.{◌≡◌, length}
use Rattle.asm_check.proofs.UseLemmas.CollectorSteps.{on_ok, adds_target}
use Rattle.asm_check.proofs.uses.collector.Collector.target.Goals as goal

pub returns-in_ok-add-in-Some : goal.returns-in_ok-add-in-Some
returns-in_ok-add-in-Some c =
    let ok = c.in-Some.target.arguments.ok in
    let len = c.len.ensures in
    let count : c.len.result ≡ length c.in-Some.target.arguments.items = cc in
    on_ok _ (adds_target c.args.target.now c.in-Some.target c.len.result _ _ _ c.in-Some.is count c.in_ok-add-in-Some.ensures) c.terms.ensures
