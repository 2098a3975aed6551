use Rattle.std.proofs.Common.{◌≡◌, ◌+◌, [], rules, sym, subst, arith}
use Rattle.asm_state.specs.Signature.{state_of}
use Rattle.asm_explore.specs.declared.search_result.BadStep.{BadStep}
use Rattle.asm_explore.specs.declared.fault.Fault.TheVariants as fault
use Rattle.asm_explore.specs.code.ReachedStates.{GoesWrong, IsBadStep, steps_from, state_at}
use Rattle.asm_explore.specs.Search.{IsDeadlock}
use Rattle.asm_explore.proofs.SearchEnds.{found_weaker}
use Rattle.asm_explore.proofs.StateLemmas.AddedNodes.{kept_state}
use Rattle.asm_explore.proofs.StateLemmas.MoreNodes.{begun_none, extends_none}
use Rattle.asm_explore.proofs.search.Search.expand_listed.Goals as goal

pub rest-requires-clause-from : goal.rest-requires-clause-from
rest-requires-clause-from g c = omega (arith, c.requires.ready.from, c.requires.ready.room, c.args.self.now.in_range.1)

pub rest-requires-clause-state : goal.rest-requires-clause-state
rest-requires-clause-state g c =
    let a = c.args in
    kept_state (g.M.Machine.shape a.self.now.machine.now) (g.M.Machine.right a.self.now.machine.now) a.from a.self.now.limit a.state.now a.reached.now.nodes c.requires.ready

pub returns-in-None-clause-expands : goal.returns-in-None-clause-expands
returns-in-None-clause-expands g c =
    let a = c.args in
    let shape = g.M.Machine.shape a.self.now.machine.now in
    let specification = g.M.Machine.specification a.self.now.machine.now in
    let turns = g.M.Machine.turns a.self.now.machine.now in
    let right = g.M.Machine.right a.self.now.machine.now in
    let rests = g.M.Machine.rests a.self.now.machine.now in
    let dead = IsDeadlock specification turns rests in
    record {
      extends = c.expand.ensures.extends;
      begun = c.expand.ensures.begun;
      room = c.expand.ensures.room;
      expanded = search rules;
      wrong =
          found_weaker
          (λ (b : BadStep). (b.from ≡ a.from) × (b.choices.items ≡ []) × (b.fault ≡ fault.Deadlock) × dead (state_of shape a.state.now))
          (λ (b : BadStep). (b.from ≡ a.from) × IsBadStep shape specification turns right rests a.reached.now.nodes a.from b.choices.items b.fault)
          c.rest.result
          (λ b is. (
            is.0,
            λ n there s taken.
                subst (λ f. GoesWrong right dead f (steps_from specification turns (state_at shape n) s) (state_at shape n)) (sym is.2)
                (subst (λ xs. dead (state_of shape xs)) (sym (c.requires.ready.here n there)) is.3),
          ))
          c.rest.ensures.wrong;
      apart = search rules;
      full = search rules;
    }

pub outcomes-requires-clause-whole : goal.outcomes-requires-clause-whole
outcomes-requires-clause-whole g c =
    let a = c.args in
    (kept_state (g.M.Machine.shape a.self.now.machine.now) (g.M.Machine.right a.self.now.machine.now) a.from a.self.now.limit a.state.now a.reached.now.nodes c.requires.ready).whole

pub is_quiet-requires-clause-state : goal.is_quiet-requires-clause-state
is_quiet-requires-clause-state g c =
    let a = c.args in
    kept_state (g.M.Machine.shape a.self.now.machine.now) (g.M.Machine.right a.self.now.machine.now) a.from a.self.now.limit a.state.now a.reached.now.nodes c.requires.ready

pub returns-clause-expands : goal.returns-clause-expands
returns-clause-expands g c =
    let a = c.args in
    let shape = g.M.Machine.shape a.self.now.machine.now in
    let specification = g.M.Machine.specification a.self.now.machine.now in
    let turns = g.M.Machine.turns a.self.now.machine.now in
    let right = g.M.Machine.right a.self.now.machine.now in
    record {
      extends = λ n there. extends_none shape specification turns right (n.depth + 1) a.reached.now.nodes;
      begun = begun_none a.from a.reached.now.nodes;
      room = c.requires.ready.room;
      expanded = tt;
      wrong = tt;
      apart = tt;
      full = search rules;
    }
