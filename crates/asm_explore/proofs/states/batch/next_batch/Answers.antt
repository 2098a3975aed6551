use Rattle.std.proofs.Common.{◌≡◌, ◌<◌, ◌∙◌, map, take, drop, length, true, ap, sym, subst, arith}
use Rattle.asm_state.specs.code.Contents.{IsStateOf}
use Rattle.asm_state.specs.Signature.{count_of}
use Rattle.asm_explore.specs.code.PackedNodes.{Node}
use Rattle.asm_explore.specs.code.OutcomeLists.{Each}
use Rattle.asm_explore.specs.code.StepsAhead.{AreAhead}
use Rattle.asm_explore.specs.code.ReachedStates.{state_at}
use Rattle.asm_explore.proofs.StateLemmas.Batches.{each_mapped, each_between, front_states, front_each, front_few, front_none}
use Rattle.asm_explore.proofs.OutcomeLemmas.ListLemmas.{each_weaker}
use Rattle.asm_explore.proofs.states.batch.next_batch.Goals as goal

pub next_states-requires-clause-nodes : goal.next_states-requires-clause-nodes
next_states-requires-clause-nodes g c =
    let shape = g.M.Machine.shape c.args.machine.now in
    each_weaker (λ (n : Node). IsStateOf shape n.state) (λ (n : Node). length n.state ≡ count_of shape) (λ n kept. kept.whole) c.args.nodes.now c.requires.nodes

pub look_from-requires-clause-states : goal.look_from-requires-clause-states
look_from-requires-clause-states g c =
    let a = c.args in
    let shape = g.M.Machine.shape a.machine.now in
    subst (Each (IsStateOf shape)) (sym (c.as_slice.ensures.value ∙ c.in_ok-states.ensures.states))
    (each_mapped (IsStateOf shape) _
    (each_between (λ (n : Node). IsStateOf shape n.state) a.nodes.now a.first (length c.in_ok-states.states.items) c.requires.nodes))

pub look_from-requires-clause-nodes : goal.look_from-requires-clause-nodes
look_from-requires-clause-nodes g c =
    let shape = g.M.Machine.shape c.args.machine.now in
    each_weaker (λ (n : Node). IsStateOf shape n.state) (λ (n : Node). length n.state ≡ count_of shape) (λ n kept. kept.whole) c.args.nodes.now c.requires.nodes

pub returns-clause-within : goal.returns-clause-within
returns-clause-within g c =
    let a = c.args in
    let shape = g.M.Machine.shape a.machine.now in
    let all = c.in_ok-states.states.items in
    let n = length c.in_ok-ahead.ahead.items in
    let same : c.len.result ≡ n = omega (arith, c.len.ensures, c.in_ok-ahead.ahead.ok.0) in
    let front : c.truncate.new.self.items ≡ take n all = c.truncate.ensures.items ∙ ap (λ k. take k all) same in
    let few = front_few all n in
    let size = ap length front in
    omega (arith, c.in_ok-states.ensures.within, few, size)

pub returns-clause-states : goal.returns-clause-states
returns-clause-states g c =
    let a = c.args in
    let shape = g.M.Machine.shape a.machine.now in
    let all = c.in_ok-states.states.items in
    let n = length c.in_ok-ahead.ahead.items in
    let same : c.len.result ≡ n = omega (arith, c.len.ensures, c.in_ok-ahead.ahead.ok.0) in
    let front : c.truncate.new.self.items ≡ take n all = c.truncate.ensures.items ∙ ap (λ k. take k all) same in
    subst (λ xs. xs ≡ map (λ (m : Node). m.state) (take (length xs) (drop a.first a.nodes.now))) (sym front)
    (front_states all (drop a.first a.nodes.now) n c.in_ok-states.ensures.states)

pub returns-clause-shallow : goal.returns-clause-shallow
returns-clause-shallow g c =
    let a = c.args in
    let shape = g.M.Machine.shape a.machine.now in
    let all = c.in_ok-states.states.items in
    let n = length c.in_ok-ahead.ahead.items in
    let same : c.len.result ≡ n = omega (arith, c.len.ensures, c.in_ok-ahead.ahead.ok.0) in
    let front : c.truncate.new.self.items ≡ take n all = c.truncate.ensures.items ∙ ap (λ k. take k all) same in
    front_each (λ (m : Node). m.depth < a.steps) (drop a.first a.nodes.now) (length all) (length c.truncate.new.self.items)
    (let few = front_few all n in let size = ap length front in omega (arith, few, size)) c.in_ok-states.ensures.shallow

pub returns-clause-inside : goal.returns-clause-inside
returns-clause-inside g c =
    let a = c.args in
    let shape = g.M.Machine.shape a.machine.now in
    let all = c.in_ok-states.states.items in
    let n = length c.in_ok-ahead.ahead.items in
    let same : c.len.result ≡ n = omega (arith, c.len.ensures, c.in_ok-ahead.ahead.ok.0) in
    let front : c.truncate.new.self.items ≡ take n all = c.truncate.ensures.items ∙ ap (λ k. take k all) same in
    front_each (λ (m : Node). g.M.Machine.within a.machine.now (state_at shape m) ≡ true) (drop a.first a.nodes.now) (length all) (length c.truncate.new.self.items)
    (let few = front_few all n in let size = ap length front in omega (arith, few, size)) c.in_ok-states.ensures.inside

pub returns-clause-none : goal.returns-clause-none
returns-clause-none g c = λ empty.
    let a = c.args in
    let shape = g.M.Machine.shape a.machine.now in
    let all = c.in_ok-states.states.items in
    let n = length c.in_ok-ahead.ahead.items in
    let same : c.len.result ≡ n = omega (arith, c.len.ensures, c.in_ok-ahead.ahead.ok.0) in
    let front : c.truncate.new.self.items ≡ take n all = c.truncate.ensures.items ∙ ap (λ k. take k all) same in
    let listed : 0 < length all → 0 < n = λ some. c.in_ok-ahead.ensures.some (omega (arith, some, ap length c.as_slice.ensures.value)) in
    c.in_ok-states.ensures.none (front_none all n listed (sym front ∙ empty))

pub returns-clause-ahead : goal.returns-clause-ahead
returns-clause-ahead g c =
    let a = c.args in
    let shape = g.M.Machine.shape a.machine.now in
    let all = c.in_ok-states.states.items in
    let n = length c.in_ok-ahead.ahead.items in
    let same : c.len.result ≡ n = omega (arith, c.len.ensures, c.in_ok-ahead.ahead.ok.0) in
    let front : c.truncate.new.self.items ≡ take n all = c.truncate.ensures.items ∙ ap (λ k. take k all) same in
    subst (λ As. AreAhead shape (g.M.Machine.specification a.machine.now) (g.M.Machine.turns a.machine.now) a.nodes.now As c.in_ok-ahead.ahead.items) (sym front)
    (subst (λ As. AreAhead shape (g.M.Machine.specification a.machine.now) (g.M.Machine.turns a.machine.now) a.nodes.now (take n As) c.in_ok-ahead.ahead.items) c.as_slice.ensures.value
    c.in_ok-ahead.ensures.ahead)
