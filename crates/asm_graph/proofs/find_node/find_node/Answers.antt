use Rattle.std.proofs.Common.{◌≡◌, ◌∙◌, length, ap, sym}
use Rattle.std.specs.Prelude.{Some}
use Rattle.std.proofs.lemmas.Option.{slice_get-get_or}
use Rattle.asm_graph.specs.declared.graph.Node.{Node}
use Rattle.asm_graph.proofs.Paired.{each_got}
use Rattle.asm_graph.proofs.find_node.find_node.Goals as goal

pub is_same_state-requires-clause-left : goal.is_same_state-requires-clause-left
is_same_state-requires-clause-left c =
    let nodes = c.args.nodes.now in
    let n = c.index-nodes-number.result in
    each_got (λ (n : Node). length n.state ≡ c.args.count) nodes c.loop-number.number n c.requires.nodes
    (slice_get-get_or nodes c.loop-number.number n c.loop-number-test.true ∙ ap Some (sym c.index-nodes-number.is))

pub returns-then-is_same_state-clause-some : goal.returns-then-is_same_state-clause-some
returns-then-is_same_state-clause-some c =
    let nodes = c.args.nodes.now in
    let n = c.index-nodes-number.result in
    (n, slice_get-get_or nodes c.loop-number.number n c.loop-number-test.true ∙ ap Some (sym c.index-nodes-number.is), c.is_same_state.ensures.0 c.if-is_same_state.true)
