use mir.Syntax.{erased}
use Rattle.std.proofs.Common.{◌≡◌, ◌<◌, length, take, sym, subst, arith}
use Rattle.std.proofs.lemmas.Result.{IfOk-weaker}
use Rattle.asm_explore_workers.specs.code.Batches.{AreAheadOf}
use Rattle.asm_explore_workers.specs.declared.job.Tally.{Tally}
use Rattle.asm_explore_workers.proofs.SharedBatches.{job_shared}
use Rattle.asm_explore_workers.proofs.FirstTasks.{firsts_ahead, firsts_some}
use Rattle.asm_explore_workers.proofs.look_by.look_shared.Goals as goal

pub work-requires-sync-J : goal.work-requires-sync-J
work-requires-sync-J g c κs within =
    let job = job_shared (record { mir = erased; lft = _ }) (record { mir = erased; lft = _ }) c.checked_is_shared.ensures c.views_and_pieces_are_shared.ensures.rules (record { shared = c.is_shared.ensures.shared }) (record { shared = c.is_shared-2.ensures.shared }) (record { shared = c.is_shared-3.ensures.shared }) in
    record { shared = job.shared }

pub returns-in-Ok-clause-some : goal.returns-in-Ok-clause-some
returns-in-Ok-clause-some g c = λ some.
    let a = c.args in
    let m = a.specified.now in
    let outs = c.in-Ok.worked.outs in
    let same : length outs.items ≡ length a.states.now = omega (arith, c.in-Ok.ensures.len.0, outs.ok) in
    IfOk-weaker c.first_outs.result _ _ (λ all is.
    subst (λ xs. 0 < length xs) (sym is)
    (firsts_some m.checked.now m.turns a.nodes.now (λ (t : Tally). Unit {0}) a.states.now outs.items same c.in-Ok.ensures.outs some))
    c.first_outs.ensures

pub returns-in-Ok-clause-ahead : goal.returns-in-Ok-clause-ahead
returns-in-Ok-clause-ahead g c =
    let a = c.args in
    let m = a.specified.now in
    let outs = c.in-Ok.worked.outs in
    let same : length outs.items ≡ length a.states.now = omega (arith, c.in-Ok.ensures.len.0, outs.ok) in
    IfOk-weaker c.first_outs.result _ _ (λ all is.
    subst (λ xs. AreAheadOf m.checked.now m.turns a.nodes.now (take (length xs) a.states.now) xs) (sym is)
    (firsts_ahead m.checked.now m.turns a.nodes.now (λ (t : Tally). Unit {0}) a.states.now outs.items same c.in-Ok.ensures.outs))
    c.first_outs.ensures
