use Rattle.std.proofs.Common.{◌≡◌, ◌∙◌, refl, ap, sym}
use Rattle.std.proofs.lemmas.Bool.{false≢true}
use Rattle.asm_state.specs.Signature.{state_of}
use Rattle.asm_state.specs.Updates.{fire}
use Rattle.asm_explore.proofs.StateLemmas.MoreNodes.{set_leads, set_stands, set_wrong}
use Rattle.asm_explore.proofs.OutcomeLemmas.SequenceOutcomes.{no_fault_found, fault_found}
use Rattle.asm_explore.proofs.OutcomeLemmas.LeadingOutcomes.{gives_same, wrong_leads}
use Rattle.asm_explore.proofs.states.trail.leads.Goals as goal

pub returns-then-is_some : goal.returns-then-is_some
returns-then-is_some c = λ r shows.
    let a = c.args in
    let shape = a.signature.now in
    let set = c.in-Set.updates in
    let wrong = set_wrong shape set a.one.now r c.in-Set.is shows (λ U stands. fault_found shape set.set U c.first_fault.result (sym c.if-is_some.ensures) c.first_fault.ensures.first stands) in
    (λ no. absurd (false≢true no), λ leads. absurd (wrong_leads r _ _ wrong.0 wrong.1 wrong.2 leads))

pub returns : goal.returns
returns c = λ r shows.
    let a = c.args in
    let shape = a.signature.now in
    let set = c.in-Set.updates in
    let A = state_of shape a.from.now in
    let stands = set_stands shape set a.one.now r c.in-Set.is shows in
    let consistent = no_fault_found shape set.set stands.0 c.first_fault.result (sym c.if-is_some.ensures) c.first_fault.ensures.consistent in (
      λ yes. set_leads shape set a.one.now A c.in_ok-next.next r (λ B. B ≡ state_of shape a.to.now) c.in-Set.is shows
          (λ U here. no_fault_found shape set.set U c.first_fault.result (sym c.if-is_some.ensures) c.first_fault.ensures.consistent here)
          (λ U here fine. c.in_ok-next.ensures.fired U here fine)
          (ap (state_of shape) (c.is_same_state.ensures.same yes)),
      λ leads.
          let next = set_leads shape set a.one.now A c.in_ok-next.next r (λ B. B ≡ state_of shape c.in_ok-next.next) c.in-Set.is shows
          (λ U here. no_fault_found shape set.set U c.first_fault.result (sym c.if-is_some.ensures) c.first_fault.ensures.consistent here)
          (λ U here fine. c.in_ok-next.ensures.fired U here fine) refl in
          c.is_same_state.ensures.states shape (c.in_ok-next.ensures.state stands.0 stands.1 (consistent stands.1) c.requires.from) c.requires.to
          (sym next.leads ∙ ap (fire A) (gives_same next.set leads.set (sym next.gives ∙ leads.gives)) ∙ leads.leads),
    )
