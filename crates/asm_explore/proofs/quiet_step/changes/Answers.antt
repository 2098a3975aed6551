use Rattle.std.proofs.Common.{◌≡◌, ◌∙◌, refl, ap, sym}
use Rattle.std.specs.Prelude.{not}
use Rattle.std.proofs.lemmas.Bool.{false≢true}
use Rattle.asm_state.specs.Signature.{state_of}
use Rattle.asm_state.specs.Updates.{fire}
use Rattle.asm_meaning.specs.Yields.{Gives}
use Rattle.asm_eval.proofs.SequenceLaws.{part_laws-consistent_part as consistent_part, part_laws-ending_part as ending_part}
use Rattle.asm_explore.proofs.OutcomeLemmas.LeadingOutcomes.{gives_same, wrong_leads}
use Rattle.asm_explore.proofs.quiet_step.changes.Goals as goal

pub returns-then-ends_parts : goal.returns-then-ends_parts
returns-then-ends_parts c = λ yes U stands leads.
    let A = state_of c.args.signature.now c.args.state.now in
    wrong_leads (Gives U) A (λ B. B ≡ A) U refl (ending_part U c.of-part.result (c.of-part.ensures U stands) (sym c.ends_parts.ensures ∙ c.if-ends_parts.true)) leads

pub returns : goal.returns
returns c = λ yes U stands leads.
    let shape = c.args.signature.now in
    let A = state_of shape c.args.state.now in
    let good = consistent_part U c.of-part.result (c.of-part.ensures U stands) (sym c.ends_parts.ensures ∙ c.if-ends_parts.false) in
    let same : state_of shape c.in_ok-next.next ≡ A =
    c.in_ok-next.ensures.fired U stands good ∙ ap (fire A) (gives_same U leads.set leads.gives) ∙ leads.leads in
    let so = c.is_same_state.ensures.states shape (c.in_ok-next.ensures.state U stands good c.requires.state) c.requires.state same in
    absurd (false≢true (ap not (sym so) ∙ yes))
