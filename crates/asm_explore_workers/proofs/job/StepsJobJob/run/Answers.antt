use Rattle.std.proofs.Common.{◌≡◌, ◌∙◌, subst}
use Rattle.std.proofs.lemmas.Option.{get_or_from_slice_get}
use Rattle.asm_explore_workers.specs.code.Batches.{IsAheadOf}
use Rattle.asm_explore_workers.proofs.job.StepsJobJob.run.Goals as goal

pub returns-clause-run : goal.returns-clause-run
returns-clause-run c = λ A there.
    let job = c.args.self.now in
    let state = c.index-states-n.result in
    let same : state ≡ A = c.index-states-n.is ∙ get_or_from_slice_get job.states.now c.args.n A state there in
    subst (λ B. IsAheadOf job.checked.now job.turns job.nodes.now B c.look_from-ahead.result) same c.look_from-ahead.ensures
