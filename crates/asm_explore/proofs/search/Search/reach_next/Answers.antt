use Rattle.std.proofs.Common.{◌∙◌, ap, length, rules, sym, subst}
use Rattle.asm_state.specs.code.Contents.{IsStateOf}
use Rattle.asm_state.specs.Signature.{count_of, state_of}
use Rattle.asm_explore.specs.code.PackedNodes.{Node}
use Rattle.asm_explore.specs.code.ReachedStates.{LeadsTo, state_at}
use Rattle.asm_explore.proofs.StateLemmas.AddedNodes.{none_added}
use Rattle.asm_explore.proofs.StateLemmas.MoreNodes.{begun_none, each_got, extends_none, found_known, some_at}
use Rattle.asm_explore.proofs.search.Search.reach_next.Goals as goal

pub returns-then-has_one_of-clause-known : goal.returns-then-has_one_of-clause-known
returns-then-has_one_of-clause-known g c = λ yes m there.
    let a = c.args in
    found_known (g.M.Machine.shape a.self.now.machine.now) a.reached.now.nodes m.state a.below c.requires.ready.near (c.has_one_of.ensures c.if-has_one_of.true m there)

pub returns-then-has_one_of-clause-adds : goal.returns-then-has_one_of-clause-adds
returns-then-has_one_of-clause-adds g c =
    let a = c.args in
    none_added (g.M.Machine.shape a.self.now.machine.now) (g.M.Machine.specification a.self.now.machine.now) (g.M.Machine.turns a.self.now.machine.now) (g.M.Machine.right a.self.now.machine.now) a.from a.self.now.limit a.below a.reached.now.nodes _ c.requires.ready.room

pub returns-in_err-state-clause-adds : goal.returns-in_err-state-clause-adds
returns-in_err-state-clause-adds g c =
    let a = c.args in
    let shape = g.M.Machine.shape a.self.now.machine.now in
    let specification = g.M.Machine.specification a.self.now.machine.now in
    let turns = g.M.Machine.turns a.self.now.machine.now in
    let right = g.M.Machine.right a.self.now.machine.now in
    record {
      extends = extends_none shape specification turns right a.below a.reached.now.nodes;
      begun = begun_none a.from a.reached.now.nodes;
      room = c.requires.ready.room;
      full = search rules;
    }

pub state-requires-clause-whole : goal.state-requires-clause-whole
state-requires-clause-whole g c = λ n there.
    let a = c.args in
    let shape = g.M.Machine.shape a.self.now.machine.now in
    let kept = each_got (λ (m : Node). IsStateOf shape m.state) a.ahead.now.states a.number n c.requires.kept there in
    kept.whole ∙ sym c.requires.like

pub reach-requires-clause-state : goal.reach-requires-clause-state
reach-requires-clause-state g c =
    let a = c.args in
    let shape = g.M.Machine.shape a.self.now.machine.now in
    let specification = g.M.Machine.specification a.self.now.machine.now in
    let turns = g.M.Machine.turns a.self.now.machine.now in
    let m = some_at a.ahead.now.states a.number c.requires.number in
    let is = c.in_ok-state.ensures m.0 m.1 in
    subst (IsStateOf shape) (sym is) (each_got (λ (m : Node). IsStateOf shape m.state) a.ahead.now.states a.number m.0 c.requires.kept m.1)

pub reach-requires-clause-leads : goal.reach-requires-clause-leads
reach-requires-clause-leads g c =
    let a = c.args in
    let shape = g.M.Machine.shape a.self.now.machine.now in
    let specification = g.M.Machine.specification a.self.now.machine.now in
    let turns = g.M.Machine.turns a.self.now.machine.now in
    let m = some_at a.ahead.now.states a.number c.requires.number in
    let is = c.in_ok-state.ensures m.0 m.1 in
    subst (λ xs. LeadsTo shape specification turns a.reached.now.nodes a.from a.below (state_of shape xs)) (sym is)
    (each_got (λ (m : Node). LeadsTo shape specification turns a.reached.now.nodes a.from a.below (state_at shape m)) a.ahead.now.states a.number m.0 c.requires.leads m.1)

pub reach-requires-clause-hash : goal.reach-requires-clause-hash
reach-requires-clause-hash g c = c.hash_of-hash.ensures

pub hash_of-hash-requires : goal.hash_of-hash-requires
hash_of-hash-requires g c =
    let a = c.args in
    let shape = g.M.Machine.shape a.self.now.machine.now in
    let m = some_at a.ahead.now.states a.number c.requires.number in
    let kept = each_got (λ (m : Node). IsStateOf shape m.state) a.ahead.now.states a.number m.0 c.requires.kept m.1 in
    ap length (c.in_ok-state.ensures m.0 m.1) ∙ kept.whole ∙ sym (c.count.ensures.count ∙ ap count_of c.signature.ensures)
