use Rattle.std.proofs.Common.{◌≡◌, ◌∙◌, ap, subst, sym}
use Rattle.asm_state.specs.Updates.{none, merge}
use Rattle.asm_state.proofs.UpdateLemmas.UnionsAndMerges.{merge_laws}
use Rattle.asm_updates.specs.code.Stands.{Stands}
use Rattle.asm_eval.proofs.spare_sets.merge_part.Goals as goal

-- if nothing was formed before, the last set is all
pub returns-then-is_empty-clause-merge : goal.returns-then-is_empty-clause-merge
returns-then-is_empty-clause-merge c shape U V first stands =
    let nothing : U ≡ none = (c.is_empty.ensures.empty shape U first).0 c.if-is_empty.true in
    subst (λ s. Stands shape s (merge U V)) (sym c.swap.ensures.x_after)
    (subst (Stands shape c.args.forming.now.set) (sym (ap (λ W. merge W V) nothing ∙ merge_laws.first_unit V)) stands)
