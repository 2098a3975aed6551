use Rattle.asm_state.specs.Signature.{state_of}
use Rattle.asm_syntax.specs.code.Views.{spec_of}
use Rattle.asm_check.specs.Shapes.{shape_of}
use Rattle.asm_meaning.specs.Declarations.{specification_of}
use Rattle.asm_explore.specs.code.ResolvedConditions.{holds_in}
use Rattle.asm_graph.proofs.WayLemmas.{way_behind}
use Rattle.asm_graph.proofs.path_graph.step_on.Goals as goal

pub returns : goal.returns
returns g c =
    let m = c.args.specified.now in
    let s = spec_of m.checked.now.spec in
    let shape = shape_of s in
    record {
      step = c.in_ok-step.step;
      more = c.in_ok-add_node.ensures;
      goes = way_behind shape (holds_in shape m.always.now) (holds_in shape m.when_quiet.now) (specification_of s) m.turns (g.P.Picks.script c.args.script.now) c.args.done (state_of shape c.args.state.now)
          c.in_ok-add_node.ensures.node (record { choices = c.in_ok-made.made; to = c.in_ok-to.to }) c.in_ok-step.step c.in_ok-add_node.ensures.is_node c.in_ok-step.ensures c.in_ok-made.ensures c.in_ok-to.next
          c.in_ok-to.ensures;
    }
