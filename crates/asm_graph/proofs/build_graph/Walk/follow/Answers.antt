use Rattle.std.proofs.Common.{◌≡◌, ◌+◌, ap, sym, subst}
use Rattle.std.specs.Prelude.{IfErr, IfOk}
use Rattle.asm_state.specs.code.Contents.{IsStateOf}
use Rattle.asm_state.specs.Signature.{count_of, state_of}
use Rattle.asm_explore.specs.code.OutcomeLists.{IsCounted}
use Rattle.asm_graph.specs.declared.graph.EdgeEnd.TheVariants as target
use Rattle.asm_graph.specs.code.GraphSoFar.{FailsSo, Leads}
use Rattle.asm_graph.specs.code.ResolvedMachines.{rests_in, right_in, shape_in, specification_in, within_in}
use Rattle.asm_graph.proofs.MoreNodes.{grown_shallow, grows_none, none_new}
use Rattle.asm_graph.proofs.Outcomes.{goes_known, led_on, leads_on, near_known, whole_next}
use Rattle.asm_graph.proofs.build_graph.Walk.follow.Goals as goal

pub next_state-requires-clause-from : goal.next_state-requires-clause-from
next_state-requires-clause-from c = subst (λ s. IsStateOf s c.args.from.now) (sym c.signature.ensures) c.requires.from

pub next_state-requires-clause-one : goal.next_state-requires-clause-one
next_state-requires-clause-one c = subst (λ s. IsCounted (count_of s) c.args.one.now.answer) (sym c.signature.ensures) c.requires.one.counted

pub reach-requires-clause-kept : goal.reach-requires-clause-kept
reach-requires-clause-kept c =
    let a = c.args in
    let shape = shape_in a.self.now.machine.now in
    let specification = specification_in a.self.now.machine.now in
    let turns = a.self.now.machine.now.turns in
    let within = within_in a.self.now.machine.now in
    let right = right_in a.self.now.machine.now in
    let rests = rests_in a.self.now.machine.now in
    let A = state_of shape a.from.now in
    let signature = c.signature.result.now in
    let leads = leads_on signature shape a.from.now c.in-Ok.next a.one.now c.signature.ensures
    (subst (λ led. IfOk led (λ next. Leads signature (state_of signature a.from.now) a.one.now next)) c.in-Ok.is c.in_ok-next.ensures.leads) in
    whole_next shape specification turns A a.one.now c.in-Ok.next c.requires.one leads c.script_law.ensures.makes

pub reach-requires-clause-led : goal.reach-requires-clause-led
reach-requires-clause-led c =
    let a = c.args in
    let shape = shape_in a.self.now.machine.now in
    let specification = specification_in a.self.now.machine.now in
    let turns = a.self.now.machine.now.turns in
    let within = within_in a.self.now.machine.now in
    let right = right_in a.self.now.machine.now in
    let rests = rests_in a.self.now.machine.now in
    let A = state_of shape a.from.now in
    let signature = c.signature.result.now in
    let leads = leads_on signature shape a.from.now c.in-Ok.next a.one.now c.signature.ensures
    (subst (λ led. IfOk led (λ next. Leads signature (state_of signature a.from.now) a.one.now next)) c.in-Ok.is c.in_ok-next.ensures.leads) in
    led_on shape specification turns A a.one.now c.in-Ok.next c.requires.one leads within a.depth c.requires.inside c.requires.led

pub returns-in_ok-number-in-Ok-clause-goes : goal.returns-in_ok-number-in-Ok-clause-goes
returns-in_ok-number-in-Ok-clause-goes c =
    let a = c.args in
    let shape = shape_in a.self.now.machine.now in
    let specification = specification_in a.self.now.machine.now in
    let turns = a.self.now.machine.now.turns in
    let within = within_in a.self.now.machine.now in
    let right = right_in a.self.now.machine.now in
    let rests = rests_in a.self.now.machine.now in
    let A = state_of shape a.from.now in
    let signature = c.signature.result.now in
    let leads = leads_on signature shape a.from.now c.in-Ok.next a.one.now c.signature.ensures
    (subst (λ led. IfOk led (λ next. Leads signature (state_of signature a.from.now) a.one.now next)) c.in-Ok.is c.in_ok-next.ensures.leads) in
    goes_known shape A a.one.now c.in-Ok.next c.reach.new.nodes.items c.in_ok-number-in-Ok.number leads c.in_ok-number-in-Ok.ensures.number

pub returns-in-Err-clause-grows : goal.returns-in-Err-clause-grows
returns-in-Err-clause-grows c =
    let a = c.args in
    let shape = shape_in a.self.now.machine.now in
    let specification = specification_in a.self.now.machine.now in
    let turns = a.self.now.machine.now.turns in
    let within = within_in a.self.now.machine.now in
    let right = right_in a.self.now.machine.now in
    let rests = rests_in a.self.now.machine.now in
    grows_none shape specification turns within right rests a.self.now.steps a.self.now.most (a.depth + 1) a.nodes.now.items c.requires.nodes

pub returns-in-Err-clause-goes : goal.returns-in-Err-clause-goes
returns-in-Err-clause-goes c =
    subst (λ s. FailsSo s c.args.one.now c.in-Err.fault) c.signature.ensures
    (subst (λ led. IfErr led (FailsSo c.signature.result.now c.args.one.now)) c.in-Err.is c.in_ok-next.ensures.fault)

pub returns-in_ok-number-in-Ok-clause-near : goal.returns-in_ok-number-in-Ok-clause-near
returns-in_ok-number-in-Ok-clause-near c =
    let a = c.args in
    let shape = shape_in a.self.now.machine.now in
    let specification = specification_in a.self.now.machine.now in
    let turns = a.self.now.machine.now.turns in
    let within = within_in a.self.now.machine.now in
    let right = right_in a.self.now.machine.now in
    let rests = rests_in a.self.now.machine.now in
    let new = c.reach.new.nodes.items in
    let ok = c.in_ok-number-in-Ok in
    near_known (a.depth + 1) c.in-Ok.next new ok.number ok.ensures.number
    (grown_shallow shape specification turns within right rests a.self.now.steps a.self.now.most (a.depth + 1) a.nodes.now.items new ok.ensures.grows c.requires.near)

pub returns-in_ok-number-in-Ok-clause-new : goal.returns-in_ok-number-in-Ok-clause-new
returns-in_ok-number-in-Ok-clause-new c = λ i past low. ap target.Node (c.in_ok-number-in-Ok.ensures.new i past low)

pub returns-in-Err-clause-new : goal.returns-in-Err-clause-new
returns-in-Err-clause-new c = none_new c.args.nodes.now.items (λ i. target.Fault c.in-Err.fault ≡ target.Node i)
