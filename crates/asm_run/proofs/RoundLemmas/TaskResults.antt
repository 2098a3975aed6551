-- Free. From what a pool's tasks returned to the outs of a round, if none was refused memory.
use Rattle.std.proofs.Common.{◌≡◌, ◌<◌, ℕ, zero, suc, List, [], ◌∷◌, Some, length, refl, ap, subst, arith}
use Rattle.std.specs.Prelude.{slice_get, Ok, Err, IsOk}
use Rattle.std.specs.List.{All, AllByRecursion}
use Rattle.std.proofs.lemmas.Bool.{false≢true}
use Rattle.std.proofs.lemmas.List.Elements.{recursion_from_All}
use Rattle.std.proofs.lemmas.Option.{slice_get_within}
use Rattle.asm_pool.specs.code.Pool.{RunsTask, RunsList, RunsLists}
use Rattle.asm_run.specs.declared.hand.RegionHand.{RegionHand}
use Rattle.asm_run.specs.code.Rounds.{TaskResult, out_of, outs_of}
use Rattle.asm_run.specs.declared.job.RegionOut.{RegionOut}

answer_at : (outs : List TaskResult) (n : ℕ) (out : TaskResult) → slice_get outs n ≡ Some out → slice_get (outs_of outs) n ≡ Some (out_of out)
answer_at [] n out at = cc
answer_at (x ∷ outs) zero out at = let e : x ≡ out = cc in ap (λ (y : TaskResult). Some (out_of y)) e
answer_at (x ∷ outs) (suc n) out at = answer_at outs n out at

pub as_many_answers : (outs : List TaskResult) → length (outs_of outs) ≡ length outs
as_many_answers [] = refl
as_many_answers (x ∷ outs) = ap suc (as_many_answers outs)

ok_at : (outs : List TaskResult) → AllByRecursion IsOk outs → (n : ℕ) (out : TaskResult) → slice_get outs n ≡ Some out → IsOk out
ok_at [] all n out at = cc
ok_at (x ∷ outs) all zero out at = let e : x ≡ out = cc in subst (λ (y : TaskResult). IsOk y) e all.0
ok_at (x ∷ outs) all (suc n) out at = ok_at outs all.1 n out at

module _ (Runs : ℕ → RegionHand → TaskResult → RegionHand → Type 0) where
  -- a run that was not refused memory
  abbrev R : ℕ → RegionHand → RegionOut → RegionHand → Type 0
  R n before out after = Runs n before (Ok out) after

  ok_run : (n : ℕ) (before after : RegionHand) (out : TaskResult) → IsOk out → Runs n before out after → R n before (out_of out) after
  ok_run n before after (Ok r) ok did = did
  ok_run n before after (Err e) ok did = absurd (false≢true ok)

  module _ (takes : RegionHand → Type 0) (outs : List TaskResult) (ok : All IsOk outs) where
    abbrev ok_there : (n : ℕ) (out : TaskResult) → slice_get outs n ≡ Some out → IsOk out
    ok_there = ok_at outs (recursion_from_All IsOk outs ok)

    task_answers : (n : ℕ) (before after : RegionHand) → RunsTask takes Runs outs before n after → RunsTask takes R (outs_of outs) before n after
    task_answers n before after did = (out_of did.0, answer_at outs n did.0 did.1, (did.2.0, did.2.1, ok_run n before after did.0 (ok_there n did.0 did.1) did.2.2))

    list_answers : (tasks : List ℕ) (before after : RegionHand) → RunsList takes Runs outs before tasks after → RunsList takes R (outs_of outs) before tasks after
    list_answers [] before after did = did
    list_answers (n ∷ tasks) before after did = (did.0, task_answers n before did.0 did.1, list_answers tasks did.0 after did.2)

    pub lists_answer : (hands others : List RegionHand) (lists : List (List ℕ)) → RunsLists takes Runs outs hands lists others → RunsLists takes R (outs_of outs) hands lists others
    lists_answer [] [] [] did = did
    lists_answer [] [] (_ ∷ _) did = absurd did
    lists_answer [] (_ ∷ _) [] did = absurd did
    lists_answer [] (_ ∷ _) (_ ∷ _) did = absurd did
    lists_answer (_ ∷ _) [] [] did = absurd did
    lists_answer (_ ∷ _) [] (_ ∷ _) did = absurd did
    lists_answer (_ ∷ _) (_ ∷ _) [] did = absurd did
    lists_answer (hand ∷ hands) (other ∷ others) (list ∷ lists) did = (list_answers list hand other did.0, lists_answer hands others lists did.1)

    -- some run returned what is there
    pub answered_at : (count : ℕ) → length outs ≡ count → ((n : ℕ) → n < count → (before : RegionHand) × (after : RegionHand) × RunsTask takes Runs outs before n after)
        → (n : ℕ) (out : RegionOut) → slice_get (outs_of outs) n ≡ Some out → (before : RegionHand) × (after : RegionHand) × R n before out after
    answered_at count long each n out at =
        let low : n < count = omega (arith, slice_get_within (outs_of outs) n out at, as_many_answers outs, long) in
        let (before, after, did) = each n low in
        let told = task_answers n before after did in
        let there = told.1 in
        let same : told.0 ≡ out = cc in
        (before, after, subst (λ (o : RegionOut). R n before o after) same told.2.2)
