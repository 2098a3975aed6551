use Rattle.asm_eval.specs.code.ShownStates.{shown_over}
use Rattle.asm_eval.proofs.FiredViews.{seen_fired}
use Rattle.asm_eval.proofs.view.View.upon.Goals as goal

pub returns-clause-fired : goal.returns-clause-fired
returns-clause-fired c = λ U stands consistent.
    let lower = c.args.lower.now in
    seen_fired lower.signature.now (shown_over lower.signature.now lower.state.now lower.below lower.over.now) c.args.over.now U stands c.len-len.ensures.sound consistent
