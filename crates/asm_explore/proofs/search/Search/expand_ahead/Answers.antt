use Rattle.std.proofs.Common.{◌≡◌, ◌+◌, [], rules, ap, sym, subst, arith}
use Rattle.asm_state.specs.code.Contents.{IsStateOf}
use Rattle.asm_state.specs.Signature.{state_of}
use Rattle.asm_explore.specs.code.StepsAhead.{IsAhead, IsFound}
use Rattle.asm_explore.specs.declared.search_result.BadStep.{BadStep}
use Rattle.asm_explore.specs.declared.fault.Fault.TheVariants as fault
use Rattle.asm_explore.specs.code.PackedNodes.{Node}
use Rattle.asm_explore.specs.code.OutcomeLists.{Each}
use Rattle.asm_explore.specs.code.ReachedStates.{GoesWrong, IsBadStep, Known, steps_from, state_at}
use Rattle.asm_explore.specs.Search.{IsDeadlock}
use Rattle.asm_explore.proofs.SearchEnds.{found_weaker, none_any, none_weaker}
use Rattle.asm_explore.proofs.OutcomeLemmas.ListLemmas.{each_weaker}
use Rattle.asm_explore.proofs.LookedAhead.{ahead_expands, found_led}
use Rattle.asm_explore.proofs.StateLemmas.AddedNodes.{can_add, can_again, deeper_extends, kept_state, stopped_expands}
use Rattle.asm_explore.proofs.StateLemmas.MoreNodes.{at_more, bad_step_less, begun_both, extends_both, some_at}
use Rattle.asm_explore.proofs.search.Search.expand_ahead.Goals as goal

pub overflow_add-below : goal.overflow_add-below
overflow_add-below g c =
    let n = some_at c.args.reached.now.nodes c.args.from c.requires.ready.from in
    omega (arith, c.requires.ready.shallow n.0 n.1, c.depth-below.ensures n.0 n.1)

pub reach_all-requires-clause-like : goal.reach_all-requires-clause-like
reach_all-requires-clause-like g c =
    let a = c.args in
    (kept_state (g.M.Machine.shape a.self.now.machine.now) (g.M.Machine.right a.self.now.machine.now) a.from a.self.now.limit a.state.now a.reached.now.nodes c.requires.ready).whole

pub reach_all-requires-clause-ready : goal.reach_all-requires-clause-ready
reach_all-requires-clause-ready g c =
    let a = c.args in
    can_add (g.M.Machine.shape a.self.now.machine.now) (g.M.Machine.right a.self.now.machine.now) a.from a.self.now.limit a.state.now a.reached.now.nodes c.requires.ready c.depth-below.result c.depth-below.ensures

pub reach_all-requires-clause-kept : goal.reach_all-requires-clause-kept
reach_all-requires-clause-kept g c =
    let a = c.args in
    let shape = g.M.Machine.shape a.self.now.machine.now in
    let specification = g.M.Machine.specification a.self.now.machine.now in
    let turns = g.M.Machine.turns a.self.now.machine.now in
    let right = g.M.Machine.right a.self.now.machine.now in
    each_weaker (IsFound shape specification turns (state_of shape a.state.now)) (λ (m : Node). IsStateOf shape m.state) (λ m is. is.0) a.ahead.now.states c.requires.ahead.found

pub reach_all-requires-clause-leads : goal.reach_all-requires-clause-leads
reach_all-requires-clause-leads g c =
    let a = c.args in
    let shape = g.M.Machine.shape a.self.now.machine.now in
    let specification = g.M.Machine.specification a.self.now.machine.now in
    let turns = g.M.Machine.turns a.self.now.machine.now in
    let right = g.M.Machine.right a.self.now.machine.now in
    found_led shape specification turns a.reached.now.nodes a.from (c.depth-below.result + 1) (state_of shape a.state.now)
    (λ n there. (ap (λ d. d + 1) (c.depth-below.ensures n there), ap (state_of shape) (c.requires.ready.here n there))) a.ahead.now.states c.requires.ahead.found

pub rest-requires-clause-from : goal.rest-requires-clause-from
rest-requires-clause-from g c = omega (arith, c.requires.ready.from, c.requires.ready.room, c.args.self.now.in_range.1)

pub rest-requires-clause-state : goal.rest-requires-clause-state
rest-requires-clause-state g c =
    let a = c.args in
    kept_state (g.M.Machine.shape a.self.now.machine.now) (g.M.Machine.right a.self.now.machine.now) a.from a.self.now.limit a.state.now a.reached.now.nodes c.requires.ready

pub expand_listed-requires-clause-ready : goal.expand_listed-requires-clause-ready
expand_listed-requires-clause-ready g c =
    let a = c.args in
    let shape = g.M.Machine.shape a.self.now.machine.now in
    let specification = g.M.Machine.specification a.self.now.machine.now in
    let turns = g.M.Machine.turns a.self.now.machine.now in
    let right = g.M.Machine.right a.self.now.machine.now in
    can_again shape specification turns right a.from a.self.now.limit c.depth-below.result a.state.now a.reached.now.nodes c.reach_all.new.reached.nodes c.in_ok-reach_all.ensures.adds.extends c.in_ok-reach_all.ensures.adds.room c.depth-below.ensures c.requires.ready

pub returns-in_err-reach_all-clause-expands : goal.returns-in_err-reach_all-clause-expands
returns-in_err-reach_all-clause-expands g c =
    let a = c.args in
    let shape = g.M.Machine.shape a.self.now.machine.now in
    let specification = g.M.Machine.specification a.self.now.machine.now in
    let turns = g.M.Machine.turns a.self.now.machine.now in
    let right = g.M.Machine.right a.self.now.machine.now in
    stopped_expands shape specification turns right a.from a.self.now.limit c.depth-below.result a.reached.now.nodes c.reach_all.new.reached.nodes c.depth-below.ensures (g.M.Machine.rests a.self.now.machine.now) _ c.reach_all.result c.reach_all.ensures.adds
    c.from_residual.result c.in_err-reach_all.field-0.0 c.in_err-reach_all.was c.from_residual.ensures.1

pub returns-then-branch-clause-expands : goal.returns-then-branch-clause-expands
returns-then-branch-clause-expands g c =
    let a = c.args in
    let shape = g.M.Machine.shape a.self.now.machine.now in
    let specification = g.M.Machine.specification a.self.now.machine.now in
    let turns = g.M.Machine.turns a.self.now.machine.now in
    let right = g.M.Machine.right a.self.now.machine.now in
    let below = c.depth-below.result + 1 in
    let mid = c.reach_all.new.reached.nodes in
    let extends = c.in_ok-reach_all.ensures.adds.extends in
    let rests = g.M.Machine.rests a.self.now.machine.now in
    let dead = IsDeadlock specification turns rests in
    let deeper = deeper_extends shape specification turns right a.from a.self.now.limit c.depth-below.result a.reached.now.nodes mid c.depth-below.ensures extends in
    record {
      extends = deeper;
      begun = c.in_ok-reach_all.ensures.adds.begun;
      room = c.in_ok-reach_all.ensures.adds.room;
      expanded =
          none_any c.rest.result _
          (λ n there.
          let deep = c.depth-below.ensures n there in
          ahead_expands shape specification turns right a.reached.now.nodes mid (n.depth + 1)
          (deeper n there) (c.requires.ready.near n there) (state_at shape n) a.ahead.now
          (subst (λ xs. IsAhead shape specification turns a.reached.now.nodes (state_of shape xs) a.ahead.now) (sym (c.requires.ready.here n there)) c.requires.ahead)
          (subst (λ d. Each (λ (m : Node). Known shape mid (d + 1) (state_at shape m)) a.ahead.now.states) deep (c.in_ok-reach_all.ensures.known c.if-branch.true)));
      wrong =
          found_weaker
          (λ (b : BadStep). (b.from ≡ a.from) × (b.choices.items ≡ []) × (b.fault ≡ fault.Deadlock) × dead (state_of shape a.state.now))
          (λ (b : BadStep). (b.from ≡ a.from) × IsBadStep shape specification turns right rests a.reached.now.nodes a.from b.choices.items b.fault)
          c.rest.result
          (λ b is. (
            is.0,
            λ n there s taken.
                subst (λ f. GoesWrong right dead f (steps_from specification turns (state_at shape n) s) (state_at shape n)) (sym is.2)
                (subst (λ xs. dead (state_of shape xs)) (sym (c.requires.ready.here n there)) is.3),
          ))
          c.rest.ensures.wrong;
      apart = search rules;
      full = search rules;
    }

pub returns-else-branch-clause-expands : goal.returns-else-branch-clause-expands
returns-else-branch-clause-expands g c =
    let a = c.args in
    let shape = g.M.Machine.shape a.self.now.machine.now in
    let specification = g.M.Machine.specification a.self.now.machine.now in
    let turns = g.M.Machine.turns a.self.now.machine.now in
    let right = g.M.Machine.right a.self.now.machine.now in
    let below = c.depth-below.result + 1 in
    let mid = c.reach_all.new.reached.nodes in
    let extends = c.in_ok-reach_all.ensures.adds.extends in
    let rests = g.M.Machine.rests a.self.now.machine.now in
    record {
      extends = λ n there.
          extends_both shape specification turns right (n.depth + 1) a.reached.now.nodes mid c.expand_listed.new.reached.nodes
          (deeper_extends shape specification turns right a.from a.self.now.limit c.depth-below.result a.reached.now.nodes mid c.depth-below.ensures extends n there)
          (c.expand_listed.ensures.expands.extends n (at_more shape specification turns right below a.reached.now.nodes mid extends a.from n there));
      begun =
          let n = some_at a.reached.now.nodes a.from c.requires.ready.from in
          begun_both shape specification turns right (n.0.depth + 1) a.from a.reached.now.nodes mid c.expand_listed.new.reached.nodes
          (c.expand_listed.ensures.expands.extends n.0 (at_more shape specification turns right below a.reached.now.nodes mid extends a.from n.0 n.1)) c.in_ok-reach_all.ensures.adds.begun c.expand_listed.ensures.expands.begun;
      room = c.expand_listed.ensures.expands.room;
      expanded = none_weaker c.expand_listed.result _ _ (λ h n there. h n (at_more shape specification turns right below a.reached.now.nodes mid extends a.from n there)) c.expand_listed.ensures.expands.expanded;
      wrong =
          found_weaker
          (λ (b : BadStep). (b.from ≡ a.from) × IsBadStep shape specification turns right rests mid a.from b.choices.items b.fault)
          (λ (b : BadStep). (b.from ≡ a.from) × IsBadStep shape specification turns right rests a.reached.now.nodes a.from b.choices.items b.fault)
          c.expand_listed.result
          (λ b is. (is.0, bad_step_less shape specification turns right below a.reached.now.nodes mid extends rests a.from b.choices.items b.fault c.requires.ready.from is.1))
          c.expand_listed.ensures.expands.wrong;
      apart = c.expand_listed.ensures.expands.apart;
      full = c.expand_listed.ensures.expands.full;
    }
