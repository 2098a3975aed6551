use Rattle.asm_syntax.specs.code.Views.{spec_of}
use Rattle.std.specs.String.{string_bytes}
use Rattle.std.proofs.Common.{◌≡◌, ◌∙◌, length, ap, sym}
use Rattle.std.specs.Prelude.{Some}
use Rattle.std.proofs.lemmas.Option.{slice_get-get_or}
use Rattle.asm_state.specs.Signature.{count_of}
use Rattle.asm_check.specs.Shapes.{shape_of}
use Rattle.asm_explore_table.specs.code.StepsMade.{names_said}
use Rattle.asm_graph.specs.declared.graph.Node.{Node}
use Rattle.asm_graph.proofs.Paired.{each_got}
use Rattle.asm_graph.proofs.Texts.{node_lines_next}
use Rattle.asm_graph.proofs.dot.add_nodes.Goals as goal

pub add_node-requires-clause-whole : goal.add_node-requires-clause-whole
add_node-requires-clause-whole c =
    let nodes = c.args.nodes.now in
    let n = c.index-nodes-number.result in
    each_got (λ (n : Node). length n.state ≡ count_of (shape_of (spec_of c.args.texts.now.checked.now.spec))) nodes c.loop-number.number n c.requires.whole
    (slice_get-get_or nodes c.loop-number.number n c.loop-number-test.true ∙ ap Some (sym c.index-nodes-number.is))

pub loop-number-preserved : goal.loop-number-preserved
loop-number-preserved c =
    node_lines_next (spec_of c.args.texts.now.checked.now.spec) (names_said c.args.texts.now.names.now) c.args.nodes.now c.args.steps.now c.loop-number.number c.index-nodes-number.result c.index-steps-number.result
    (string_bytes c.args.dot.now) (string_bytes c.loop-number.dot) (string_bytes c.add_node.new.dot) c.loop-number-test.true c.requires.paired
    c.index-nodes-number.is c.index-steps-number.is c.loop-number.invariant c.in_ok-add_node.ensures
