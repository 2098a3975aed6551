use Rattle.std.proofs.Common.{◌≡◌, ◌∙◌, refl, rules, false, ap, sym, subst}
use Rattle.asm_state.specs.code.Contents.{IsStateOf}
use Rattle.asm_state.specs.Signature.{state_of}
use Rattle.asm_state.specs.Updates.{fire}
use Rattle.asm_updates.specs.code.Stands.{Stands}
use Rattle.asm_explore.specs.code.OutcomeLists.{Situation, AreTaken}
use Rattle.asm_explore.specs.code.ReachedStates.{Known, steps_from, state_at}
use Rattle.asm_explore.specs.Search.{LeadsOn}
use Rattle.asm_explore.proofs.ScriptLemmas.ScriptToState.{some_script}
use Rattle.asm_explore.proofs.StateLemmas.AddedNodes.{none_added, added_ok, added_on}
use Rattle.asm_explore.proofs.StateLemmas.MoreNodes.{begun_none, extends_none, set_leads, set_stands, set_wrong, path_wrong, some_at}
use Rattle.asm_explore.proofs.OutcomeLemmas.SequenceOutcomes.{no_fault_found, fault_found}
use Rattle.asm_explore.proofs.search.Search.follow.Goals as goal

pub reach-requires-clause-state : goal.reach-requires-clause-state
reach-requires-clause-state g c =
    let a = c.args in
    let shape = g.M.Machine.shape a.self.now.machine.now in
    let signature = c.signature-signature.result.now in
    let set = c.in-Set.updates in
    let n = some_at a.reached.now.nodes a.from c.requires.ready.from in
    let taken = some_script 1 a.one.now.choices c.requires.apart in
    let s : Situation = record { script = taken.0; step = 1 } in
    let r = steps_from (g.M.Machine.specification a.self.now.machine.now) (g.M.Machine.turns a.self.now.machine.now) (state_at shape n.0) s in
    let stands = set_stands shape set a.one.now r c.in-Set.is ((c.requires.outcome n.0 n.1).1 s taken.1) in
    let here : Stands signature set.set stands.0 = subst (λ s. Stands s set.set stands.0) (sym c.signature-signature.ensures) stands.1 in
    subst (λ s. IsStateOf s c.in_ok-next.next) c.signature-signature.ensures
    (c.in_ok-next.ensures.state stands.0 here (no_fault_found signature set.set stands.0 c.first_fault.result (sym c.if-is_some.ensures) c.first_fault.ensures.consistent here)
    (subst (λ s. IsStateOf s a.state.now) (sym c.signature-signature.ensures) c.requires.state))

pub reach-requires-clause-leads : goal.reach-requires-clause-leads
reach-requires-clause-leads g c = λ n there.
    let a = c.args in
    let shape = g.M.Machine.shape a.self.now.machine.now in
    let signature = c.signature-signature.result.now in
    let set = c.in-Set.updates in
    let outcome = c.requires.outcome n there in
    let leads : (s : Situation) → AreTaken s a.one.now.choices
    → LeadsOn (steps_from (g.M.Machine.specification a.self.now.machine.now) (g.M.Machine.turns a.self.now.machine.now) (state_at shape n) s) (state_at shape n) (λ A. A ≡ state_of shape c.in_ok-next.next) = λ s taken.
    let r = steps_from (g.M.Machine.specification a.self.now.machine.now) (g.M.Machine.turns a.self.now.machine.now) (state_at shape n) s in
    set_leads shape set a.one.now (state_at shape n) c.in_ok-next.next r (λ A. A ≡ state_of shape c.in_ok-next.next) c.in-Set.is
    (outcome.1 s taken)
    (λ U stands. no_fault_found signature set.set U c.first_fault.result (sym c.if-is_some.ensures) c.first_fault.ensures.consistent
    (subst (λ s. Stands s set.set U) (sym c.signature-signature.ensures) stands))
    (λ U stands consistent.
    subst (λ s. state_of s c.in_ok-next.next ≡ fire (state_of s a.state.now) U) c.signature-signature.ensures
    (c.in_ok-next.ensures.fired U (subst (λ s. Stands s set.set U) (sym c.signature-signature.ensures) stands) consistent)
    ∙ ap (λ xs. fire (state_of shape xs) U) (sym (c.requires.here n there)))
    refl in
    (outcome.0, (a.one.now.choices, record { apart = c.requires.apart; leads = leads }))

pub returns-in-Exhausted-clause-wrong : goal.returns-in-Exhausted-clause-wrong
returns-in-Exhausted-clause-wrong g c = λ n there s taken.
    let a = c.args in
    let shape = g.M.Machine.shape a.self.now.machine.now in
    let r = steps_from (g.M.Machine.specification a.self.now.machine.now) (g.M.Machine.turns a.self.now.machine.now) (state_at shape n) s in
    path_wrong shape _ a.one.now r c.in-Exhausted.is ((c.requires.outcome n there).1 s taken)

pub returns-then-is_some-clause-wrong : goal.returns-then-is_some-clause-wrong
returns-then-is_some-clause-wrong g c = λ n there s taken.
    let a = c.args in
    let shape = g.M.Machine.shape a.self.now.machine.now in
    let signature = c.signature-signature.result.now in
    let set = c.in-Set.updates in
    let r = steps_from (g.M.Machine.specification a.self.now.machine.now) (g.M.Machine.turns a.self.now.machine.now) (state_at shape n) s in
    set_wrong shape set a.one.now r c.in-Set.is ((c.requires.outcome n there).1 s taken)
    (λ U stands. fault_found signature set.set U c.first_fault.result (sym c.if-is_some.ensures) c.first_fault.ensures.first
    (subst (λ s. Stands s set.set U) (sym c.signature-signature.ensures) stands))

pub returns-then-fine-clause-leads : goal.returns-then-fine-clause-leads
returns-then-fine-clause-leads g c = λ n r there shows.
    let a = c.args in
    let shape = g.M.Machine.shape a.self.now.machine.now in
    let signature = c.signature-signature.result.now in
    let set = c.in-Set.updates in
    set_leads shape set a.one.now (state_at shape n) c.in_ok-next.next r (Known shape c.reach.new.reached.nodes a.below) c.in-Set.is shows
    (λ U stands. no_fault_found signature set.set U c.first_fault.result (sym c.if-is_some.ensures) c.first_fault.ensures.consistent
    (subst (λ s. Stands s set.set U) (sym c.signature-signature.ensures) stands))
    (λ U stands consistent.
    subst (λ s. state_of s c.in_ok-next.next ≡ fire (state_of s a.state.now) U) c.signature-signature.ensures
    (c.in_ok-next.ensures.fired U (subst (λ s. Stands s set.set U) (sym c.signature-signature.ensures) stands) consistent)
    ∙ ap (λ xs. fire (state_of shape xs) U) (sym (c.requires.here n there)))
    (c.in_ok-fine.ensures.known c.if-fine.true)

pub returns-clause-wrong : goal.returns-clause-wrong
returns-clause-wrong g c = λ n there s taken.
    let a = c.args in
    let shape = g.M.Machine.shape a.self.now.machine.now in
    let signature = c.signature-signature.result.now in
    let set = c.in-Set.updates in
    let r = steps_from (g.M.Machine.specification a.self.now.machine.now) (g.M.Machine.turns a.self.now.machine.now) (state_at shape n) s in
    set_leads shape set a.one.now (state_at shape n) c.in_ok-next.next r (λ A. g.M.Machine.right a.self.now.machine.now A ≡ false) c.in-Set.is
    ((c.requires.outcome n there).1 s taken)
    (λ U stands. no_fault_found signature set.set U c.first_fault.result (sym c.if-is_some.ensures) c.first_fault.ensures.consistent
    (subst (λ s. Stands s set.set U) (sym c.signature-signature.ensures) stands))
    (λ U stands consistent.
    subst (λ s. state_of s c.in_ok-next.next ≡ fire (state_of s a.state.now) U) c.signature-signature.ensures
    (c.in_ok-next.ensures.fired U (subst (λ s. Stands s set.set U) (sym c.signature-signature.ensures) stands) consistent)
    ∙ ap (λ xs. fire (state_of shape xs) U) (sym (c.requires.here n there)))
    (c.in_ok-fine.ensures.wrong c.if-fine.false)

-- ---- the nodes that are added

pub returns-in-Exhausted-clause-adds : goal.returns-in-Exhausted-clause-adds
returns-in-Exhausted-clause-adds g c =
    let a = c.args in
    let shape = g.M.Machine.shape a.self.now.machine.now in
    let specification = g.M.Machine.specification a.self.now.machine.now in
    let turns = g.M.Machine.turns a.self.now.machine.now in
    let right = g.M.Machine.right a.self.now.machine.now in
    none_added shape specification turns right a.from a.self.now.limit a.below a.reached.now.nodes _ c.requires.ready.room

pub returns-then-is_some-clause-adds : goal.returns-then-is_some-clause-adds
returns-then-is_some-clause-adds g c =
    let a = c.args in
    let shape = g.M.Machine.shape a.self.now.machine.now in
    let specification = g.M.Machine.specification a.self.now.machine.now in
    let turns = g.M.Machine.turns a.self.now.machine.now in
    let right = g.M.Machine.right a.self.now.machine.now in
    none_added shape specification turns right a.from a.self.now.limit a.below a.reached.now.nodes _ c.requires.ready.room

pub returns-in_err-next-clause-adds : goal.returns-in_err-next-clause-adds
returns-in_err-next-clause-adds g c =
    let a = c.args in
    let shape = g.M.Machine.shape a.self.now.machine.now in
    let specification = g.M.Machine.specification a.self.now.machine.now in
    let turns = g.M.Machine.turns a.self.now.machine.now in
    let right = g.M.Machine.right a.self.now.machine.now in
    record {
      extends = extends_none shape specification turns right a.below a.reached.now.nodes;
      begun = begun_none a.from a.reached.now.nodes;
      room = c.requires.ready.room;
      full = search rules;
    }

pub returns-then-fine-clause-adds : goal.returns-then-fine-clause-adds
returns-then-fine-clause-adds g c =
    let a = c.args in
    let shape = g.M.Machine.shape a.self.now.machine.now in
    let specification = g.M.Machine.specification a.self.now.machine.now in
    let turns = g.M.Machine.turns a.self.now.machine.now in
    let right = g.M.Machine.right a.self.now.machine.now in
    added_ok shape specification turns right a.from a.self.now.limit a.below a.reached.now.nodes c.reach.new.reached.nodes c.reach.result c.reach.ensures.adds _

pub returns-clause-adds : goal.returns-clause-adds
returns-clause-adds g c =
    let a = c.args in
    let shape = g.M.Machine.shape a.self.now.machine.now in
    let specification = g.M.Machine.specification a.self.now.machine.now in
    let turns = g.M.Machine.turns a.self.now.machine.now in
    let right = g.M.Machine.right a.self.now.machine.now in
    added_ok shape specification turns right a.from a.self.now.limit a.below a.reached.now.nodes c.reach.new.reached.nodes c.reach.result c.reach.ensures.adds _

pub returns-in_err-fine-clause-adds : goal.returns-in_err-fine-clause-adds
returns-in_err-fine-clause-adds g c =
    let a = c.args in
    let shape = g.M.Machine.shape a.self.now.machine.now in
    let specification = g.M.Machine.specification a.self.now.machine.now in
    let turns = g.M.Machine.turns a.self.now.machine.now in
    let right = g.M.Machine.right a.self.now.machine.now in
    added_on shape specification turns right a.from a.self.now.limit a.below a.reached.now.nodes c.reach.new.reached.nodes c.reach.result c.reach.ensures.adds c.from_residual-in_err-fine.result c.in_err-fine.field-0.0 c.in_err-fine.was c.from_residual-in_err-fine.ensures.1
