use Rattle.std.proofs.Common.{◌≡◌, ◌∙◌, ◌++◌, ◌∷◌, [], List, ap, sym, append_assoc}
use Rattle.std.specs.Prelude.{Option, Some}
use Rattle.std.specs.Vec.Iter.{into_iter_items}
use Rattle.asm_explore.specs.declared.step_ahead.StepAhead.{StepAhead}
use Rattle.asm_explore_workers.specs.code.Batches.{firsts}
use Rattle.asm_explore_workers.proofs.look_by.first_outs.Goals as goal

pub loop-out-preserved : goal.loop-out-preserved
loop-out-preserved c =
    let l = c.loop-out in
    let rest : List (Option (Option StepAhead)) = into_iter_items l.out-iterator in
    let after : List (Option (Option StepAhead)) = into_iter_items c.next.new.self in
    let out : Option (Option StepAhead) = Some c.in-Some-out.ahead in
    let is : c.in-Some.out ≡ out = cc in
    let next : rest ≡ out ∷ after = c.in-Some.ensures.steps.0 ∙ ap (λ (x : Option (Option StepAhead)). x ∷ after) is in
    ap (λ xs. xs ++ firsts after) c.in_ok-push.ensures.items ∙ append_assoc l.all.items (c.in-Some-out.ahead ∷ []) (firsts after)
    ∙ sym (ap (λ (xs : List (Option (Option StepAhead))). l.all.items ++ firsts xs) next) ∙ l.invariant
