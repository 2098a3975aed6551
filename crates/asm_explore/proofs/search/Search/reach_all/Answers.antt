use Rattle.std.proofs.Common.{◌<◌, length, sym, arith}
use Rattle.std.proofs.lemmas.Option.{get_or_from_slice_get}
use Rattle.asm_explore.specs.code.PackedNodes.{Node}
use Rattle.asm_explore.specs.code.ReachedStates.{Known, LeadsTo, state_at}
use Rattle.asm_explore.proofs.OutcomeLemmas.ListLemmas.{each_weaker}
use Rattle.asm_explore.proofs.StateLemmas.AddedNodes.{can_more, more_added, added_ok, added_on}
use Rattle.asm_explore.proofs.StateLemmas.MoreNodes.{at_less, begun_both, begun_none, each_taken, each_taken_more, extends_both, extends_none, known_more, some_at}
use Rattle.asm_explore.proofs.search.Search.reach_all.Goals as goal

pub loop-k-init : goal.loop-k-init
loop-k-init g c =
    let a = c.args in
    record {
      begun = begun_none a.from a.reached.now.nodes;
      room = c.requires.ready.room;
      extends = extends_none (g.M.Machine.shape a.self.now.machine.now) (g.M.Machine.specification a.self.now.machine.now) (g.M.Machine.turns a.self.now.machine.now) (g.M.Machine.right a.self.now.machine.now) a.below a.reached.now.nodes;
      known = tt;
    }

pub reach_next-requires-clause-ready : goal.reach_next-requires-clause-ready
reach_next-requires-clause-ready g c =
    let a = c.args in
    let l = c.loop-k in
    can_more (g.M.Machine.shape a.self.now.machine.now) (g.M.Machine.specification a.self.now.machine.now) (g.M.Machine.turns a.self.now.machine.now) (g.M.Machine.right a.self.now.machine.now) a.from a.self.now.limit a.below a.reached.now.nodes l.reached.nodes l.invariant.extends l.invariant.room c.requires.ready

pub reach_next-requires-clause-leads : goal.reach_next-requires-clause-leads
reach_next-requires-clause-leads g c =
    let a = c.args in
    let l = c.loop-k in
    let shape = g.M.Machine.shape a.self.now.machine.now in
    let specification = g.M.Machine.specification a.self.now.machine.now in
    let turns = g.M.Machine.turns a.self.now.machine.now in
    let right = g.M.Machine.right a.self.now.machine.now in
    each_weaker (λ (m : Node). LeadsTo shape specification turns a.reached.now.nodes a.from a.below (state_at shape m))
    (λ (m : Node). LeadsTo shape specification turns l.reached.nodes a.from a.below (state_at shape m))
    (λ m leads n there. leads n (at_less shape specification turns right a.below a.reached.now.nodes l.reached.nodes l.invariant.extends a.from n c.requires.ready.from there)) a.ahead.now.states c.requires.leads

pub loop-k-preserved : goal.loop-k-preserved
loop-k-preserved g c =
    let a = c.args in
    let l = c.loop-k in
    let shape = g.M.Machine.shape a.self.now.machine.now in
    let specification = g.M.Machine.specification a.self.now.machine.now in
    let turns = g.M.Machine.turns a.self.now.machine.now in
    let right = g.M.Machine.right a.self.now.machine.now in
    let low : l.k < length a.ahead.now.states = omega (arith, c.loop-k-test.true, c.len-k-end.ensures) in
    let m = some_at a.ahead.now.states l.k low in
    let new = c.reach_next.new.reached.nodes in
    let more = c.in_ok-reach_next.ensures.adds.extends in
    record {
      begun = begun_both shape specification turns right a.below a.from a.reached.now.nodes l.reached.nodes new more l.invariant.begun c.in_ok-reach_next.ensures.adds.begun;
      room = c.in_ok-reach_next.ensures.adds.room;
      extends = extends_both shape specification turns right a.below a.reached.now.nodes l.reached.nodes new l.invariant.extends more;
      known = each_taken_more (λ (m : Node). Known shape new a.below (state_at shape m)) a.ahead.now.states l.k m.0 low (sym (get_or_from_slice_get a.ahead.now.states l.k m.0 m.0 m.1))
          (c.in_ok-reach_next.ensures.known c.if-not-branch.false m.0 m.1)
          (each_weaker (λ (m : Node). Known shape l.reached.nodes a.below (state_at shape m)) (λ (m : Node). Known shape new a.below (state_at shape m))
          (λ m h. known_more shape specification turns right a.below l.reached.nodes new more a.below (state_at shape m) h) _ l.invariant.known);
    }

pub returns-then-not-branch-clause-adds : goal.returns-then-not-branch-clause-adds
returns-then-not-branch-clause-adds g c =
    let a = c.args in
    let l = c.loop-k in
    let shape = g.M.Machine.shape a.self.now.machine.now in
    let specification = g.M.Machine.specification a.self.now.machine.now in
    let turns = g.M.Machine.turns a.self.now.machine.now in
    let right = g.M.Machine.right a.self.now.machine.now in
    added_ok shape specification turns right a.from a.self.now.limit a.below a.reached.now.nodes c.reach_next.new.reached.nodes c.reach_next.result
    (more_added shape specification turns right a.from a.self.now.limit a.below a.reached.now.nodes l.reached.nodes c.reach_next.new.reached.nodes c.reach_next.result l.invariant.extends l.invariant.begun c.reach_next.ensures.adds) _

pub returns-in_err-reach_next-clause-adds : goal.returns-in_err-reach_next-clause-adds
returns-in_err-reach_next-clause-adds g c =
    let a = c.args in
    let l = c.loop-k in
    let shape = g.M.Machine.shape a.self.now.machine.now in
    let specification = g.M.Machine.specification a.self.now.machine.now in
    let turns = g.M.Machine.turns a.self.now.machine.now in
    let right = g.M.Machine.right a.self.now.machine.now in
    added_on shape specification turns right a.from a.self.now.limit a.below a.reached.now.nodes c.reach_next.new.reached.nodes c.reach_next.result
    (more_added shape specification turns right a.from a.self.now.limit a.below a.reached.now.nodes l.reached.nodes c.reach_next.new.reached.nodes c.reach_next.result l.invariant.extends l.invariant.begun c.reach_next.ensures.adds)
    c.from_residual.result c.in_err-reach_next.field-0.0 c.in_err-reach_next.was c.from_residual.ensures.1

pub returns-clause-adds : goal.returns-clause-adds
returns-clause-adds g c =
    let l = c.loop-k in
    record { extends = l.invariant.extends; begun = l.invariant.begun; room = l.invariant.room; full = tt }

pub returns-clause-known : goal.returns-clause-known
returns-clause-known g c = λ yes.
    let a = c.args in
    let l = c.loop-k in
    let shape = g.M.Machine.shape a.self.now.machine.now in
    let specification = g.M.Machine.specification a.self.now.machine.now in
    let turns = g.M.Machine.turns a.self.now.machine.now in
    let right = g.M.Machine.right a.self.now.machine.now in
    each_taken (λ (m : Node). Known shape l.reached.nodes a.below (state_at shape m)) a.ahead.now.states l.k (omega (arith, c.loop-k-test.false, c.len-k-end.ensures)) l.invariant.known
