use Rattle.std.proofs.Common.{◌≡◌, ◌∙◌, ap, length, sym, subst}
use Rattle.asm_explore.specs.code.IndexedNodes.{IsIndexed, slot_of, tag_at}
use Rattle.asm_explore.proofs.StateLemmas.IndexedNodes.{found_stands, stands_taken}
use Rattle.asm_explore.proofs.states.lookup.is_reached.Goals as goal

-- the search for a node's hash comes to no free slot before the node's own
pub returns-then-other-eq0-clause-new : goal.returns-then-other-eq0-clause-new
returns-then-other-eq0-clause-new c = λ no is indexed number n there same.
    let a = c.args in
    let l = c.loop-steps in
    let slots = c.as_slice-slots.result.now in
    let tags = c.as_slice-tags.result.now in
    let here : IsIndexed a.nodes.now slots tags =
    subst (λ xs. IsIndexed a.nodes.now xs tags) (sym c.as_slice-slots.ensures.value)
    (subst (λ xs. IsIndexed a.nodes.now a.index.now.slots.items xs) (sym c.as_slice-tags.ensures.value) indexed) in
    let stands = found_stands a.nodes.now slots tags a.hash a.state.now here is number n there same in
    let free : tag_at tags (slot_of a.hash (length tags) l.steps) ≡ 0 = ap (tag_at tags) (sym l.invariant.is) ∙ c.if-other-eq0.true in
    stands_taken slots tags a.hash number stands.0 l.steps stands.1 (l.invariant.past number stands.0 n there same stands.1) free
