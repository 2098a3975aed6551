use Rattle.std.proofs.Common.{◌≡◌, sym}
use Rattle.std.proofs.lemmas.Option.{get_or_from_slice_get}
use Rattle.asm_explore.proofs.OutcomeLemmas.ListLemmas.{any_at}
use Rattle.asm_explore.proofs.StateLemmas.MoreNodes.{some_at}
use Rattle.asm_explore.proofs.states.lookup.has_state.Goals as goal

pub returns-clause-found : goal.returns-clause-found
returns-clause-found c = λ yes.
    let a = c.args in
    let n = some_at a.nodes.now a.number c.requires.number in
    any_at (λ n. n.state ≡ a.state.now) a.nodes.now a.number n.0 c.requires.number (sym (get_or_from_slice_get a.nodes.now a.number n.0 n.0 n.1)) (c.has_state.ensures.same yes n.0 n.1)
