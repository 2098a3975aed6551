use Rattle.std.proofs.Common.{◌∙◌, ap}
use Rattle.std.specs.List.{flat_map}
use Rattle.asm_syntax.specs.code.Views.{spec_of}
use Rattle.asm_explore_table.specs.code.StepsMade.{names_said}
use Rattle.asm_graph.specs.Arrows.{all_edges}
use Rattle.asm_graph.specs.Dot.{dot_of}
use Rattle.asm_graph.specs.code.DrawnArrows.{drawn_line}
use Rattle.asm_graph.proofs.DrawnArrows.{lines_drawn}
use Rattle.asm_graph.proofs.dot.dot_text.Goals as goal

pub returns : goal.returns
returns c = λ path marks.
    let s = spec_of c.args.checked.now.spec in
    let names = names_said c.args.names.now in
    let graph = c.args.graph.now in
    let arrows = c.in_ok-arrows.arrows.items in
    record {
      is = c.in_ok-dot.ensures ∙ ap (λ drawn. dot_of s names graph (flat_map drawn_line drawn)) c.as_slice.ensures.value
          ∙ ap (dot_of s names graph) (lines_drawn s c.args.turns path (all_edges 0 graph.nodes.items graph.steps.items) arrows (c.in_ok-arrows.ensures path marks));
    }
