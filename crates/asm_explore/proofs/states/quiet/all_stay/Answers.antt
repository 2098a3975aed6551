use Rattle.std.proofs.Common.{◌≡◌, ◌∙◌, refl, sym, arith}
use Rattle.std.proofs.lemmas.Bool.{false≢true}
use Rattle.asm_state.specs.Signature.{count_of, state_of}
use Rattle.asm_meaning.specs.Yields.{Result}
use Rattle.asm_explore.specs.declared.outcomes.listed_outcome.ListedOutcome.{ListedOutcome}
use Rattle.asm_explore.specs.code.OutcomeLists.{Situation, IsCounted, IsSound, Shows}
use Rattle.asm_explore.specs.code.ChoicePaths.{HaveOwnPaths}
use Rattle.asm_explore.specs.code.ReachedStates.{steps_from}
use Rattle.asm_explore.specs.Search.{LeadsOn}
use Rattle.asm_explore.proofs.ScriptLemmas.ScriptToState.{some_script}
use Rattle.asm_explore.proofs.OutcomeLemmas.ListLemmas.{each_at}
use Rattle.asm_explore.proofs.StateLemmas.MoreNodes.{both_of, each_taken, each_taken_more}
use Rattle.asm_explore.proofs.states.quiet.all_stay.Goals as goal

pub leads-requires-clause-one : goal.leads-requires-clause-one
leads-requires-clause-one c =
    let a = c.args in
    each_at (λ (f : ListedOutcome). IsCounted (count_of a.signature.now) f.answer) a.outcomes.now c.loop-k.k c.index-outcomes-k.result c.loop-k-test.true c.index-outcomes-k.is c.requires.counted

pub loop-k-preserved : goal.loop-k-preserved
loop-k-preserved c =
    let a = c.args in
    let shape = a.signature.now in
    let one = c.index-outcomes-k.result in
    each_taken_more (λ (f : ListedOutcome). (r : Result) → Shows shape f.answer r → LeadsOn r (state_of shape a.state.now) (λ B. B ≡ state_of shape a.state.now)) a.outcomes.now c.loop-k.k one c.loop-k-test.true c.index-outcomes-k.is
    (λ r shows. (c.in_ok-leads.ensures r shows).0 c.if-not-branch.false)
    c.loop-k.invariant

pub returns-then-not-branch : goal.returns-then-not-branch
returns-then-not-branch c = λ specification turns listed.
    let a = c.args in
    let shape = a.signature.now in
    let A = state_of shape a.state.now in
    let one = c.index-outcomes-k.result in
    let taken = some_script 1 one.choices (each_at (λ (f : ListedOutcome). HaveOwnPaths f.choices) a.outcomes.now c.loop-k.k one c.loop-k-test.true c.index-outcomes-k.is listed.apart) in
    let s : Situation = record { script = taken.0; step = 1 } in
    let r = steps_from specification turns A s in
    let shows = each_at (IsSound shape (steps_from specification turns A)) a.outcomes.now c.loop-k.k one c.loop-k-test.true c.index-outcomes-k.is listed.lists.sound s taken.1 in
    let so = c.in_ok-leads.ensures r shows in (
      λ yes. absurd (false≢true yes),
      λ quiet. absurd (false≢true (sym c.if-not-branch.true ∙ so.1 (quiet taken.0 1))),
    )

pub returns : goal.returns
returns c = λ specification turns listed.
    let a = c.args in
    let shape = a.signature.now in
    let A = state_of shape a.state.now in (
      λ yes script step.
          let s : Situation = record { script = script; step = step } in
          let r = steps_from specification turns A s in
          let one = both_of (λ (f : ListedOutcome). (r : Result) → Shows shape f.answer r → LeadsOn r A (λ B. B ≡ A)) (λ (f : ListedOutcome). Shows shape f.answer r) a.outcomes.now
          (each_taken (λ (f : ListedOutcome). (r : Result) → Shows shape f.answer r → LeadsOn r A (λ B. B ≡ A)) a.outcomes.now c.loop-k.k (omega arith) c.loop-k.invariant)
          (listed.lists.complete s) in
          one.1 r one.2,
      λ quiet. refl,
    )
