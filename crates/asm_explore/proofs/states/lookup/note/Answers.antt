use Rattle.std.proofs.Common.{◌+◌, [], ◌∷◌, ◌++◌, sym, subst}
use Rattle.std.specs.Prelude.{slice_set}
use Rattle.asm_explore.specs.code.IndexedNodes.{IsIndexed}
use Rattle.asm_explore.proofs.StateLemmas.IndexedNodes.{indexed_more}
use Rattle.asm_explore.proofs.states.lookup.note.Goals as goal

pub returns-clause-indexed : goal.returns-clause-indexed
returns-clause-indexed c = λ nodes n count is indexed.
    let a = c.args in
    subst (λ tag. IsIndexed (nodes ++ n ∷ []) (slice_set a.slots.now.items a.at (a.number + 1)) (slice_set a.tags.now.items a.at tag)) (sym c.tag_of.ensures)
    (indexed_more nodes n a.slots.now.items a.tags.now.items a.hash a.at a.number c.requires.free count is indexed)
