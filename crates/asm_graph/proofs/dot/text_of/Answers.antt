use Rattle.std.proofs.Common.{◌++◌, ◌∙◌, ap}
use Rattle.std.specs.Prelude.{codes}
use Rattle.std.specs.List.{flat_map}
use Rattle.std.specs.String.{string_bytes}
use Rattle.asm_syntax.specs.code.Views.{spec_of}
use Rattle.asm_explore_table.specs.code.StepsMade.{names_said}
use Rattle.asm_graph.specs.Dot.{fault_line, faults, node_lines, quoted}
use Rattle.asm_graph.specs.code.DrawnArrows.{drawn_line}
use Rattle.asm_graph.proofs.Texts.{seven_pieces}
use Rattle.asm_graph.proofs.dot.text_of.Goals as goal

pub returns : goal.returns
returns c =
    let s = spec_of c.args.checked.now.spec in
    let names = names_said c.args.names.now in
    let nodes = c.args.graph.now.nodes.items in
    let steps = c.args.graph.now.steps.items in
    let same_nodes = c.as_slice-nodes.ensures.value in
    let same_steps = c.as_slice-steps.ensures.value in
    seven_pieces (codes "digraph ") (quoted s.name.text) (codes " {\n  node [shape=box];\n") (node_lines s names 0 nodes steps) (flat_map (fault_line steps) faults) (flat_map drawn_line c.args.arrows.now) (codes "}\n")
    (string_bytes c.in_ok-dot.dot) (string_bytes c.push_quoted.new.text) (string_bytes c.push_str.new.self) (string_bytes c.add_nodes.new.dot) (string_bytes c.add_faults.new.dot)
    (string_bytes c.add_arrows.new.dot) (string_bytes c.push_str-2.new.self) c.in_ok-dot.ensures.ok
    (c.in_ok-push_quoted.ensures ∙ ap (λ t. string_bytes c.in_ok-dot.dot ++ quoted t) c.as_bytes.ensures)
    c.in_ok-push_str.ensures.bytes
    (c.in_ok-add_nodes.ensures ∙ ap (λ ns. string_bytes c.push_str.new.self ++ node_lines s names 0 ns c.as_slice-steps.result.now) same_nodes
    ∙ ap (λ ss. string_bytes c.push_str.new.self ++ node_lines s names 0 nodes ss) same_steps)
    (c.in_ok-add_faults.ensures ∙ ap (λ ss. string_bytes c.add_nodes.new.dot ++ flat_map (fault_line ss) faults) same_steps)
    c.in_ok-add_arrows.ensures
    c.in_ok-push_str-2.ensures.bytes
