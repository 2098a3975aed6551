use Rattle.std.proofs.Common.{◌≡◌, ◌≢◌, ◌+◌, ◌∙◌, ◌++◌, ◌∷◌, [], length, ap, sym, subst, arith}
use Rattle.std.specs.Prelude.{IfNone, Some, slice_get}
use Rattle.std.proofs.lemmas.List.{length_push}
use Rattle.asm_state.specs.Signature.{count_of}
use Rattle.asm_explore.specs.code.OutcomeLists.{Each}
use Rattle.asm_graph.specs.declared.graph.Node.{Node}
use Rattle.asm_graph.specs.code.GraphSoFar.{HasContents, IsNodeRight, hash_in}
use Rattle.asm_graph.specs.code.ResolvedMachines.{rests_in, right_in, shape_in, specification_in, within_in}
use Rattle.asm_graph.proofs.MoreNodes.{grows_none, grows_one, none_new}
use Rattle.asm_graph.proofs.Paired.{each_weaker, slice_last}
use Rattle.asm_graph.proofs.TooMany.{too_many}
use Rattle.asm_graph.proofs.build_graph.Walk.reach.Goals as goal

pub find_node-requires-clause-nodes : goal.find_node-requires-clause-nodes
find_node-requires-clause-nodes c =
    let a = c.args in
    let shape = shape_in a.self.now.machine.now in
    let specification = specification_in a.self.now.machine.now in
    let turns = a.self.now.machine.now.turns in
    let within = within_in a.self.now.machine.now in
    let right = right_in a.self.now.machine.now in
    let rests = rests_in a.self.now.machine.now in
    let count = c.count-count.result in
    subst (Each (λ (n : Node). length n.state ≡ count)) (sym c.as_slice.ensures.value)
    (each_weaker (IsNodeRight shape specification turns within right rests) (λ (n : Node). length n.state ≡ count)
    (λ n h. h.kept.whole ∙ sym (c.count-count.ensures.count ∙ ap count_of c.signature.ensures)) a.nodes.now.items c.requires.nodes.each)

pub find_node-requires-clause-hashed : goal.find_node-requires-clause-hashed
find_node-requires-clause-hashed c =
    let a = c.args in
    let shape = shape_in a.self.now.machine.now in
    let specification = specification_in a.self.now.machine.now in
    let turns = a.self.now.machine.now.turns in
    let within = within_in a.self.now.machine.now in
    let right = right_in a.self.now.machine.now in
    let rests = rests_in a.self.now.machine.now in
    subst (Each (λ (n : Node). n.hash ≡ hash_in n.state)) (sym c.as_slice.ensures.value)
    (each_weaker (IsNodeRight shape specification turns within right rests) (λ (n : Node). n.hash ≡ hash_in n.state) (λ n h. h.hashed) a.nodes.now.items c.requires.nodes.each)

pub returns-in-Some-clause-grows : goal.returns-in-Some-clause-grows
returns-in-Some-clause-grows c =
    let a = c.args in
    let shape = shape_in a.self.now.machine.now in
    let specification = specification_in a.self.now.machine.now in
    let turns = a.self.now.machine.now.turns in
    let within = within_in a.self.now.machine.now in
    let right = right_in a.self.now.machine.now in
    let rests = rests_in a.self.now.machine.now in
    grows_none shape specification turns within right rests a.self.now.steps a.self.now.most a.depth a.nodes.now.items c.requires.nodes

pub returns-in-Some-clause-number : goal.returns-in-Some-clause-number
returns-in-Some-clause-number c = subst (λ xs. HasContents xs c.in-Some.number c.args.next) c.as_slice.ensures.value c.in-Some.ensures.some

pub returns-in-Some-clause-new : goal.returns-in-Some-clause-new
returns-in-Some-clause-new c = none_new c.args.nodes.now.items (λ i. c.in-Some.number ≡ i)

pub returns-then-number-self-clause-refused : goal.returns-then-number-self-clause-refused
returns-then-number-self-clause-refused c =
    let a = c.args in
    let shape = shape_in a.self.now.machine.now in
    let specification = specification_in a.self.now.machine.now in
    let turns = a.self.now.machine.now.turns in
    let within = within_in a.self.now.machine.now in
    let right = right_in a.self.now.machine.now in
    let rests = rests_in a.self.now.machine.now in
    let fresh = subst (Each (λ (m : Node). m.state ≢ a.next)) c.as_slice.ensures.value
    (subst (λ o. IfNone o (Each (λ (m : Node). m.state ≢ a.next) c.as_slice.result.now)) c.in_default.is c.find_node.ensures.none) in
    let full : length a.nodes.now.items ≡ a.self.now.most = omega (arith, c.requires.nodes.few, c.if-number-self.true, c.len-number.ensures) in
    too_many c.script_law.ensures.makes shape specification turns within a.self.now.steps right rests a.self.now.most a.depth a.nodes.now.items a.next c.requires.nodes full
    c.requires.kept c.requires.led c.requires.shallow fresh

pub returns-clause-grows : goal.returns-clause-grows
returns-clause-grows c =
    let a = c.args in
    let shape = shape_in a.self.now.machine.now in
    let specification = specification_in a.self.now.machine.now in
    let turns = a.self.now.machine.now.turns in
    let within = within_in a.self.now.machine.now in
    let right = right_in a.self.now.machine.now in
    let rests = rests_in a.self.now.machine.now in
    let new = c.push.new.self.items in
    let node = c.new_node-node.result in
    let new_one = subst (Each (λ (m : Node). m.state ≢ a.next)) c.as_slice.ensures.value
    (subst (λ o. IfNone o (Each (λ (m : Node). m.state ≢ a.next) c.as_slice.result.now)) c.in_default.is c.find_node.ensures.none) in
    let fresh = subst (λ xs. Each (λ (m : Node). m.state ≢ xs) a.nodes.now.items) (sym c.new_node-node.ensures.state) new_one in
    let size : length new ≡ length a.nodes.now.items + 1 = ap length c.in_ok-push.ensures.items ∙ length_push a.nodes.now.items node in
    grows_one shape specification turns within right rests a.self.now.steps a.self.now.most a.depth a.nodes.now.items new node c.in_ok-push.ensures.items c.requires.nodes c.requires.near
    c.new_node-node.ensures.kept c.new_node-node.ensures.depth fresh c.requires.shallow (omega (arith, size, c.if-number-self.false, c.len-number.ensures))

pub returns-clause-number : goal.returns-clause-number
returns-clause-number c =
    let old = c.args.nodes.now.items in
    let node = c.new_node-node.result in
    let at : c.len-number.result ≡ length old = omega (arith, c.len-number.ensures, c.args.nodes.now.ok.0) in
    (node, subst (λ ns. slice_get ns c.len-number.result ≡ Some node) (sym c.in_ok-push.ensures.items) (ap (slice_get (old ++ node ∷ [])) at ∙ slice_last old node), c.new_node-node.ensures.state)

pub returns-clause-new : goal.returns-clause-new
returns-clause-new c = λ i past low.
    let old = c.args.nodes.now.items in
    let size : length c.push.new.self.items ≡ length old + 1 = ap length c.in_ok-push.ensures.items ∙ length_push old c.new_node-node.result in
    omega (arith, past, low, size, c.len-number.ensures, c.args.nodes.now.ok.0)
