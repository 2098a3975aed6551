use Rattle.std.proofs.Common.{◌≡◌, ◌∷◌, [], inl, inr, refl, sym, subst}
use Rattle.std.specs.Prelude.{◌⊎◌}
use Rattle.asm_state.specs.code.Contents.{IsStateOf}
use Rattle.asm_state.specs.Signature.{state_of}
use Rattle.asm_state.specs.Updates.{UpdateSet, IsConsistent, fire}
use Rattle.asm_updates.specs.code.Stands.{Stands}
use Rattle.asm_explore.specs.code.StepsAhead.{IsReached}
use Rattle.asm_explore.specs.code.PackedNodes.{Node}
use Rattle.asm_explore.specs.code.OutcomeLists.{Situation, AreTaken}
use Rattle.asm_explore.specs.code.ReachedStates.{steps_from, state_at}
use Rattle.asm_explore.specs.Search.{LeadsOn}
use Rattle.asm_explore.proofs.ScriptLemmas.ScriptToState.{some_script}
use Rattle.asm_explore.proofs.OutcomeLemmas.ListLemmas.{any_last}
use Rattle.asm_explore.proofs.LookedAhead.{found_reached}
use Rattle.asm_explore.proofs.StateLemmas.MoreNodes.{set_leads, set_stands}
use Rattle.asm_explore.proofs.OutcomeLemmas.SequenceOutcomes.{no_fault_found}
use Rattle.asm_explore.proofs.look_ahead.look_at.Goals as goal

pub returns-then-is_reached-clause-leads : goal.returns-then-is_reached-clause-leads
returns-then-is_reached-clause-leads g c = λ yes r shows.
    let a = c.args in
    let shape = g.M.Machine.shape a.machine.now in
    let signature = c.signature-signature.result.now in
    let set = c.in-Set.updates in
    let A = state_of shape a.from.now in
    let o = steps_from (g.M.Machine.specification a.machine.now) (g.M.Machine.turns a.machine.now) A in
    let consistent : (U : UpdateSet) → Stands shape set.set U → IsConsistent U = λ U stands.
    no_fault_found signature set.set U c.first_fault.result (sym c.if-is_some.ensures) c.first_fault.ensures.consistent
    (subst (λ s. Stands s set.set U) (sym c.signature-signature.ensures) stands) in
    let fired : (U : UpdateSet) → Stands shape set.set U → IsConsistent U → state_of shape c.in_ok-next.next ≡ fire A U = λ U stands fine.
    subst (λ s. state_of s c.in_ok-next.next ≡ fire (state_of s a.from.now) U) c.signature-signature.ensures
    (c.in_ok-next.ensures.fired U (subst (λ s. Stands s set.set U) (sym c.signature-signature.ensures) stands) fine) in
    set_leads shape set a.one.now A c.in_ok-next.next r (λ B. IsReached shape a.nodes.now B ⊎ IsReached shape a.found.now B) c.in-Set.is shows consistent fired
    (inl (found_reached shape a.nodes.now c.in_ok-next.next (c.is_reached.ensures.found c.if-is_reached.true)))

pub returns-clause-leads : goal.returns-clause-leads
returns-clause-leads g c = λ yes r shows.
    let a = c.args in
    let shape = g.M.Machine.shape a.machine.now in
    let signature = c.signature-signature.result.now in
    let set = c.in-Set.updates in
    let A = state_of shape a.from.now in
    let o = steps_from (g.M.Machine.specification a.machine.now) (g.M.Machine.turns a.machine.now) A in
    let consistent : (U : UpdateSet) → Stands shape set.set U → IsConsistent U = λ U stands.
    no_fault_found signature set.set U c.first_fault.result (sym c.if-is_some.ensures) c.first_fault.ensures.consistent
    (subst (λ s. Stands s set.set U) (sym c.signature-signature.ensures) stands) in
    let fired : (U : UpdateSet) → Stands shape set.set U → IsConsistent U → state_of shape c.in_ok-next.next ≡ fire A U = λ U stands fine.
    subst (λ s. state_of s c.in_ok-next.next ≡ fire (state_of s a.from.now) U) c.signature-signature.ensures
    (c.in_ok-next.ensures.fired U (subst (λ s. Stands s set.set U) (sym c.signature-signature.ensures) stands) fine) in
    let node : Node = record { state = c.in_ok-next.next; from = 0; depth = 0 } in
    let there : IsReached shape c.push-2.new.self (state_of shape c.in_ok-next.next) =
    subst (λ ns. IsReached shape ns (state_of shape c.in_ok-next.next)) (sym c.in_ok-push-2.ensures.ok)
    (any_last (λ (n : Node). state_at shape n ≡ state_of shape c.in_ok-next.next) a.found.now (node ∷ []) (inl refl)) in
    set_leads shape set a.one.now A c.in_ok-next.next r (λ B. IsReached shape a.nodes.now B ⊎ IsReached shape c.push-2.new.self B) c.in-Set.is shows consistent fired (inr there)

pub returns-clause-more : goal.returns-clause-more
returns-clause-more g c =
    let a = c.args in
    let shape = g.M.Machine.shape a.machine.now in
    let signature = c.signature-signature.result.now in
    let set = c.in-Set.updates in
    let A = state_of shape a.from.now in
    let o = steps_from (g.M.Machine.specification a.machine.now) (g.M.Machine.turns a.machine.now) A in
    let consistent : (U : UpdateSet) → Stands shape set.set U → IsConsistent U = λ U stands.
    no_fault_found signature set.set U c.first_fault.result (sym c.if-is_some.ensures) c.first_fault.ensures.consistent
    (subst (λ s. Stands s set.set U) (sym c.signature-signature.ensures) stands) in
    let fired : (U : UpdateSet) → Stands shape set.set U → IsConsistent U → state_of shape c.in_ok-next.next ≡ fire A U = λ U stands fine.
    subst (λ s. state_of s c.in_ok-next.next ≡ fire (state_of s a.from.now) U) c.signature-signature.ensures
    (c.in_ok-next.ensures.fired U (subst (λ s. Stands s set.set U) (sym c.signature-signature.ensures) stands) fine) in
    let taken = some_script 1 a.one.now.choices c.requires.apart in
    let s : Situation = record { script = taken.0; step = 1 } in
    let stands = set_stands shape set a.one.now (o s) c.in-Set.is (c.requires.sound s taken.1) in
    let here : Stands signature set.set stands.0 = subst (λ s. Stands s set.set stands.0) (sym c.signature-signature.ensures) stands.1 in
    let kept : IsStateOf shape c.in_ok-next.next =
    subst (λ s. IsStateOf s c.in_ok-next.next) c.signature-signature.ensures
    (c.in_ok-next.ensures.state stands.0 here (consistent stands.0 stands.1) (subst (λ s. IsStateOf s a.from.now) (sym c.signature-signature.ensures) c.requires.from)) in
    let leads : (s : Situation) → AreTaken s a.one.now.choices → LeadsOn (o s) A (λ B. B ≡ state_of shape c.in_ok-next.next) = λ s made.
    set_leads shape set a.one.now A c.in_ok-next.next (o s) (λ B. B ≡ state_of shape c.in_ok-next.next) c.in-Set.is (c.requires.sound s made) consistent fired refl in (
      record { state = c.in_ok-next.next; from = 0; depth = 0 } ∷ [],
      c.in_ok-push-2.ensures.ok,
      ((kept, (a.one.now.choices, record { apart = c.requires.apart; leads = leads })), tt),
    )
