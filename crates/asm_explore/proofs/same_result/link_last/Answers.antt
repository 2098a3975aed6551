use Rattle.std.proofs.Common.{◌∙◌, ap, slice_set}
use Rattle.std.proofs.lemmas.List.{set-get_or}
use Rattle.asm_explore.proofs.same_result.link_last.Goals as goal

pub returns-then-next-eq0 : goal.returns-then-next-eq0
returns-then-next-eq0 c =
    let l = c.loop-depth in
    let one = c.index_mut.result.now in
    ap (λ f. slice_set l.found.items l.at f) c.index_mut.ensures.value ∙ set-get_or l.found.items l.at one ∙ l.invariant
