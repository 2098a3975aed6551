use Rattle.std.proofs.Common.{sym, ap, ◌∙◌}
use Rattle.std.specs.Prelude.{slice_get}
use Rattle.asm_check.proofs.CycleLemmas.CycleSearchSteps.{next_is, copied_is}
use Rattle.asm_check.proofs.cycles.cycle_search.step_at.Goals as goal

pub returns-clause-step : goal.returns-clause-step
returns-clause-step c =
    c.copied.ensures
    ∙ copied_is c.deref.result.now c.args.index c.get.result c.get.ensures.lookup
    ∙ ap (λ xs. slice_get xs c.args.index) (c.deref.ensures.value ∙ sym (next_is c.args.steps.now c.args.node c.index-steps-node.result c.requires c.index-steps-node.is))
