use Rattle.std.proofs.Common.{◌≡◌, length}
use Rattle.asm_check.proofs.UseLemmas.CollectorSteps.{on_ok, adds_named, adds_chain}
use Rattle.asm_check.proofs.uses.collector.Collector.+term_uses.Goals as goal

pub term-returns-in_ok-add-in-Named : goal.term-returns-in_ok-add-in-Named
term-returns-in_ok-add-in-Named t c =
    let ok = c.in-Named.arguments.ok in
    let len = c.len.ensures in
    let count : c.len.result ≡ length c.in-Named.arguments.items = cc in
    on_ok _ (adds_named c.args.term.now c.in-Named.name c.in-Named.arguments c.len.result _ _ _ c.in-Named.is count c.in_ok-add-in-Named.ensures) c.terms.ensures

pub term-returns-in_ok-term-in-Chain : goal.term-returns-in_ok-term-in-Chain
term-returns-in_ok-term-in-Chain t c =
    on_ok _ (adds_chain c.args.term.now c.in-Chain.first c.in-Chain.rest c.deref.result.now _ _ _ c.in-Chain.is c.deref.ensures c.in_ok-term-in-Chain.ensures) c.links.ensures
