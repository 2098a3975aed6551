use Rattle.std.proofs.Common.{sym, subst, arith}
use Rattle.asm_state.specs.Signature.{count_of, state_of}
use Rattle.asm_explore.specs.code.StepsAhead.{IsFound}
use Rattle.asm_explore.specs.declared.outcomes.listed_outcome.ListedOutcome.{ListedOutcome}
use Rattle.asm_explore.specs.code.OutcomeLists.{Each, IsCounted, IsSound}
use Rattle.asm_explore.specs.code.ChoicePaths.{HaveOwnPaths}
use Rattle.asm_explore.specs.code.ReachedStates.{steps_from}
use Rattle.asm_explore.proofs.OutcomeLemmas.ListLemmas.{each_append, each_at}
use Rattle.asm_explore.proofs.LookedAhead.{looked_all, looked_more, looked_none}
use Rattle.asm_explore.proofs.look_ahead.look_ahead.Goals as goal

pub loop-k-init : goal.loop-k-init
loop-k-init g c =
    let a = c.args in
    let shape = g.M.Machine.shape a.machine.now in
    let A = state_of shape a.from.now in
    record {
      found = subst (Each (IsFound shape (g.M.Machine.specification a.machine.now) (g.M.Machine.turns a.machine.now) A)) (sym c.in_ok-states.ensures) tt;
      leads = looked_none shape A a.nodes.now a.outcomes.now c.in_ok-states.states;
    }

pub look_at-requires-clause-one : goal.look_at-requires-clause-one
look_at-requires-clause-one g c =
    let a = c.args in
    let l = c.loop-k in
    let shape = g.M.Machine.shape a.machine.now in
    let specification = g.M.Machine.specification a.machine.now in
    let turns = g.M.Machine.turns a.machine.now in
    let A = state_of shape a.from.now in
    let one = c.index-outcomes-k.result in
    each_at (λ (f : ListedOutcome). IsCounted (count_of shape) f.answer) a.outcomes.now l.k one c.loop-k-test.true c.index-outcomes-k.is c.requires.step.lists.counted

pub look_at-requires-clause-sound : goal.look_at-requires-clause-sound
look_at-requires-clause-sound g c =
    let a = c.args in
    let l = c.loop-k in
    let shape = g.M.Machine.shape a.machine.now in
    let specification = g.M.Machine.specification a.machine.now in
    let turns = g.M.Machine.turns a.machine.now in
    let A = state_of shape a.from.now in
    let one = c.index-outcomes-k.result in
    each_at (IsSound shape (steps_from specification turns A)) a.outcomes.now l.k one c.loop-k-test.true c.index-outcomes-k.is c.requires.step.lists.sound

pub look_at-requires-clause-apart : goal.look_at-requires-clause-apart
look_at-requires-clause-apart g c =
    let a = c.args in
    let l = c.loop-k in
    let shape = g.M.Machine.shape a.machine.now in
    let specification = g.M.Machine.specification a.machine.now in
    let turns = g.M.Machine.turns a.machine.now in
    let A = state_of shape a.from.now in
    let one = c.index-outcomes-k.result in
    each_at (λ (f : ListedOutcome). HaveOwnPaths f.choices) a.outcomes.now l.k one c.loop-k-test.true c.index-outcomes-k.is c.requires.step.apart

pub loop-k-preserved : goal.loop-k-preserved
loop-k-preserved g c =
    let a = c.args in
    let l = c.loop-k in
    let shape = g.M.Machine.shape a.machine.now in
    let specification = g.M.Machine.specification a.machine.now in
    let turns = g.M.Machine.turns a.machine.now in
    let A = state_of shape a.from.now in
    let one = c.index-outcomes-k.result in
    let more = c.in_ok-look_at.ensures.more in
    record {
      found = subst (Each (IsFound shape specification turns A)) (sym more.1) (each_append (IsFound shape specification turns A) l.states more.0 l.invariant.found more.2);
      leads = looked_more shape A a.nodes.now a.outcomes.now l.k one l.states c.look_at.new.found more.0 c.loop-k-test.true c.index-outcomes-k.is more.1
          (c.in_ok-look_at.ensures.leads c.if-not-branch.false) l.invariant.leads;
    }

pub returns : goal.returns
returns g c =
    let a = c.args in
    let l = c.loop-k in
    let shape = g.M.Machine.shape a.machine.now in
    let specification = g.M.Machine.specification a.machine.now in
    let turns = g.M.Machine.turns a.machine.now in
    let A = state_of shape a.from.now in
    let all = looked_all shape A a.nodes.now a.outcomes.now l.k l.states (omega (arith, c.loop-k-test.false)) l.invariant.leads in
    record {
      found = l.invariant.found;
      leads = λ s. all (steps_from specification turns A s) (c.requires.step.lists.complete s);
      quiet = c.in_ok-is_quiet.ensures;
    }
