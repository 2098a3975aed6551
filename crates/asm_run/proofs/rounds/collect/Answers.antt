use Rattle.std.proofs.Common.{◌≡◌, ◌∙◌, ◌+◌, ◌++◌, ◌∷◌, List, All, min, refl, ap, sym, subst, append_assoc, arith}
use Rattle.std.specs.Prelude.{IsOk, Ok}
use Rattle.std.specs.Vec.Iter.{into_iter_items}
use Rattle.std.proofs.lemmas.List.Elements.{All-cons}
use Rattle.asm_eval.specs.code.FormedOutcomes.{greatest_count}
use Rattle.asm_run.specs.code.Rounds.{TaskResult, outs_of, least_of_all, new_pieces, count_instances}
use Rattle.asm_run.specs.declared.job.RegionOut.TheVariants as region
use Rattle.asm_run.proofs.rounds.collect.Goals as goal

pub loop-out-preserved-in-Pieces : goal.loop-out-preserved-in-Pieces
loop-out-preserved-in-Pieces c =
    let l = c.loop-out in
    let rest : List TaskResult = into_iter_items l.out-iterator in
    let after : List TaskResult = into_iter_items c.next.new.self in
    let out : TaskResult = Ok (region.Pieces c.in-Pieces.pieces c.in-Pieces.more) in
    let is : c.in-Some.out ≡ out = cc in
    let step : rest ≡ out ∷ after = c.in-Some.ensures.steps.0 ∙ ap (λ (x : TaskResult). x ∷ after) is in
    let sum : c.saturating_add-counted.result ≡ min (l.counted + c.in-Pieces.more) greatest_count = omega (arith, c.saturating_add-counted.ensures) in
    record {
      ok = λ all. l.invariant.ok (subst (λ (xs : List TaskResult). All IsOk xs) (sym step) (All-cons IsOk out after refl all));
      next = ap (λ ps. ps ++ new_pieces (outs_of after)) c.in_ok-append-in-Pieces.ensures.items ∙ append_assoc l.next.items c.in-Pieces.pieces.items (new_pieces (outs_of after))
          ∙ sym (ap (λ (xs : List TaskResult). l.next.items ++ new_pieces (outs_of xs)) step) ∙ l.invariant.next;
      counted = ap (λ n. count_instances n (outs_of after)) sum ∙ sym (ap (λ (xs : List TaskResult). count_instances l.counted (outs_of xs)) step) ∙ l.invariant.counted;
      least = sym (ap (λ (xs : List TaskResult). least_of_all l.least (outs_of xs)) step) ∙ l.invariant.least;
    }
