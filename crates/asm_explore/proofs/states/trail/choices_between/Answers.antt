use Rattle.std.proofs.Common.{◌≡◌, ◌<◌, ◌∙◌, sym, subst, length, arith}
use Rattle.std.proofs.lemmas.Bool.{false≢true}
use Rattle.asm_state.specs.Signature.{count_of, state_of}
use Rattle.asm_meaning.specs.Yields.{Result}
use Rattle.asm_explore.specs.declared.outcomes.listed_outcome.ListedOutcome.{ListedOutcome}
use Rattle.asm_explore.specs.code.OutcomeLists.{Situation, AreTaken, IsCounted, IsSound, Shows}
use Rattle.asm_explore.specs.code.ChoicePaths.{HaveOwnPaths}
use Rattle.asm_explore.specs.code.ReachedStates.{steps_from}
use Rattle.asm_explore.specs.Search.{LeadsOn}
use Rattle.asm_explore.proofs.ScriptLemmas.ScriptToState.{some_script}
use Rattle.asm_explore.proofs.OutcomeLemmas.ListLemmas.{each_at}
use Rattle.asm_explore.proofs.StateLemmas.MoreNodes.{each_taken, each_taken_more}
use Rattle.asm_explore.proofs.OutcomeLemmas.LeadingOutcomes.{none_leads}
use Rattle.asm_explore.proofs.states.trail.choices_between.Goals as goal

pub returns-then-branch-clause-some : goal.returns-then-branch-clause-some
returns-then-branch-clause-some g c =
    let a = c.args in
    let shape = g.M.Machine.shape a.machine.now in
    let specification = g.M.Machine.specification a.machine.now in
    let turns = g.M.Machine.turns a.machine.now in
    let A = state_of shape a.from.now in
    let fs = c.in_ok-outcomes.outcomes.items in
    let one = c.index-one.result.now in
    let low : c.loop-k.k < length fs = omega (arith, c.loop-k-test.true, c.len-k-end.ensures, c.in_ok-outcomes.outcomes.ok.0) in
    let step = c.in_ok-outcomes.ensures.step in
    let chosen : c.in_ok-choices.choices.items ≡ one.choices = c.in_ok-choices.ensures in
    record {
      apart = subst HaveOwnPaths (sym chosen) (each_at (λ (f : ListedOutcome). HaveOwnPaths f.choices) fs c.loop-k.k one low c.index-one.ensures step.apart);
      leads = λ s taken.
          let shows = each_at (IsSound shape (steps_from specification turns A)) fs c.loop-k.k one low c.index-one.ensures step.lists.sound s (subst (AreTaken s) chosen taken) in
          let r = steps_from specification turns A s in
          let leads = c.in_ok-leads.ensures r (subst (λ s. Shows s one.answer r) (sym c.signature.ensures) shows) in
          subst (λ s. LeadsOn r (state_of s a.from.now) (λ C. C ≡ state_of s a.to.now)) c.signature.ensures (leads.0 c.if-branch.true);
    }

pub leads-requires-clause-one : goal.leads-requires-clause-one
leads-requires-clause-one g c =
    let a = c.args in
    let shape = g.M.Machine.shape a.machine.now in
    let fs = c.in_ok-outcomes.outcomes.items in
    let one = c.index-one.result.now in
    let low : c.loop-k.k < length fs = omega (arith, c.loop-k-test.true, c.len-k-end.ensures, c.in_ok-outcomes.outcomes.ok.0) in
    subst (λ s. IsCounted (count_of s) one.answer) (sym c.signature.ensures)
    (each_at (λ (f : ListedOutcome). IsCounted (count_of shape) f.answer) fs c.loop-k.k one low c.index-one.ensures c.in_ok-outcomes.ensures.step.lists.counted)

pub loop-k-preserved : goal.loop-k-preserved
loop-k-preserved g c =
    let a = c.args in
    let shape = g.M.Machine.shape a.machine.now in
    let fs = c.in_ok-outcomes.outcomes.items in
    let one = c.index-one.result.now in
    let low : c.loop-k.k < length fs = omega (arith, c.loop-k-test.true, c.len-k-end.ensures, c.in_ok-outcomes.outcomes.ok.0) in
    each_taken_more (λ (f : ListedOutcome). (r : Result) → Shows shape f.answer r → LeadsOn r (state_of shape a.from.now) (λ B. B ≡ state_of shape a.to.now) → ⊥) fs c.loop-k.k one low c.index-one.ensures
    (λ r shows leads.
    let so = c.in_ok-leads.ensures r (subst (λ s. Shows s one.answer r) (sym c.signature.ensures) shows) in
    absurd (false≢true (sym c.if-branch.false ∙ so.1 (subst (λ s. LeadsOn r (state_of s a.from.now) (λ C. C ≡ state_of s a.to.now)) (sym c.signature.ensures) leads))))
    c.loop-k.invariant

pub returns-clause-none : goal.returns-clause-none
returns-clause-none g c = λ may.
    let a = c.args in
    let shape = g.M.Machine.shape a.machine.now in
    let A = state_of shape a.from.now in
    let fs = c.in_ok-outcomes.outcomes.items in
    let taken = some_script 1 may.0 may.1.apart in
    let s : Situation = record { script = taken.0; step = 1 } in
    let r = steps_from (g.M.Machine.specification a.machine.now) (g.M.Machine.turns a.machine.now) A s in
    none_leads shape fs r A (λ B. B ≡ state_of shape a.to.now)
    (each_taken (λ (f : ListedOutcome). (r : Result) → Shows shape f.answer r → LeadsOn r A (λ B. B ≡ state_of shape a.to.now) → ⊥) fs c.loop-k.k (omega (arith, c.len-k-end.ensures, c.in_ok-outcomes.outcomes.ok.0)) c.loop-k.invariant)
    (c.in_ok-outcomes.ensures.step.lists.complete s) (may.1.leads s taken.1)
