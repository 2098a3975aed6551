use Rattle.std.proofs.Common.{refl, subst, sym}
use Rattle.asm_state.specs.Signature.{location_at}
use Rattle.asm_state.specs.Updates.{none, one}
use Rattle.asm_state.proofs.UpdateLemmas.UnionsAndMerges.{union_laws}
use Rattle.asm_updates.specs.code.Stands.{Stands}
use Rattle.asm_eval.proofs.SequenceLaws.{one_is_some, proper_consistent, stray_inconsistent}
use Rattle.asm_eval.proofs.spare_sets.merge_update.Goals as goal

pub returns-in_ok-merge_proper-in-None-clause-part : goal.returns-in_ok-merge_proper-in-None-clause-part
returns-in_ok-merge_proper-in-None-clause-part c =
    let l = location_at c.args.signature.now c.args.n in
    (one_is_some l c.args.value, proper_consistent l c.args.value c.in-None.ensures.proper)

pub returns-in_ok-merge_proper-in-None-clause-merge : goal.returns-in_ok-merge_proper-in-None-clause-merge
returns-in_ok-merge_proper-in-None-clause-merge c U first =
    let shape = c.args.signature.now in
    c.in_ok-merge_proper-in-None.ensures.merge shape U c.in-None.ensures.proper (subst (λ s. Stands shape s U) (sym c.take_memory.ensures.same) first)

pub returns-in_ok-merge_part-in-Some-clause-part : goal.returns-in_ok-merge_part-in-Some-clause-part
returns-in_ok-merge_part-in-Some-clause-part c =
    stray_inconsistent _ (location_at c.args.signature.now c.args.n) c.args.value c.in-Some.ensures.stray

pub returns-in_ok-merge_part-in-Some-clause-merge : goal.returns-in_ok-merge_part-in-Some-clause-merge
returns-in_ok-merge_part-in-Some-clause-merge c U first =
    let shape = c.args.signature.now in
    let update = one (location_at shape c.args.n) c.args.value in
    let empty = c.clear.ensures.empty shape first.is_sound c.requires.forming in
    c.in_ok-merge_part-in-Some.ensures.merge shape U update first
    (subst (Stands shape c.add.new.self) (union_laws.unit update) (c.in_ok-add-in-Some.ensures.value shape none refl empty))
