use Rattle.std.proofs.Common.{◌∙◌}
use Rattle.asm_state.specs.Signature.{state_of}
use Rattle.asm_state.specs.Updates.{none}
use Rattle.asm_state.proofs.UpdateLemmas.Summaries.{fire_laws}
use Rattle.asm_eval.proofs.FiredViews.{seen_fired}
use Rattle.asm_eval.proofs.SequenceLaws.{none_consistent}
use Rattle.asm_eval.proofs.view.View.new.Goals as goal

pub returns-clause-fired : goal.returns-clause-fired
returns-clause-fired c = λ U stands consistent.
    seen_fired c.args.signature.now (state_of c.args.signature.now c.args.state.now) c.args.over.now U stands c.len-len.ensures.sound consistent

pub returns-clause-alone : goal.returns-clause-alone
returns-clause-alone c = λ empty.
    let A = state_of c.args.signature.now c.args.state.now in
    seen_fired c.args.signature.now A c.args.over.now none empty c.len-len.ensures.sound none_consistent ∙ fire_laws.of_none A
