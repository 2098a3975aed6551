use Rattle.std.proofs.Common.{◌≡◌, length}
use Rattle.asm_state.specs.Signature.{count_of, state_of}
use Rattle.asm_state.specs.code.Contents.{IsStateOf}
use Rattle.asm_syntax.specs.code.Views.{spec_of}
use Rattle.asm_check.specs.Shapes.{shape_of}
use Rattle.asm_meaning.specs.Declarations.{specification_of}
use Rattle.asm_explore.specs.ListElements.{Each}
use Rattle.asm_explore.specs.code.ResolvedConditions.{holds_in}
use Rattle.asm_graph.specs.declared.graph.Node.{Node}
use Rattle.asm_graph.proofs.WayLemmas.{SoFar}
use Rattle.asm_graph.proofs.path_graph.path_of.Given as goal

-- the nodes so far are the first ones of the run
abbrev pub invariant-loop-done : goal.invariant-loop-done
invariant-loop-done g l =
    let m = l.specified in
    let s = spec_of m.checked.now.spec in
    let shape = shape_of s in
    record {
      state : IsStateOf shape l.state;
      nodes : Each (λ (n : Node). length n.state ≡ count_of shape) l.graph.nodes.items;
      paired : length l.graph.steps.items ≡ length l.graph.nodes.items;
      path : SoFar shape (holds_in shape m.always.now) (holds_in shape m.when_quiet.now) (specification_of s) m.turns (g.P.Picks.script l.script) l.limit l.done (state_of shape l.state) l.graph.nodes.items l.graph.steps.items;
    }
