use Rattle.asm_syntax.specs.code.Views.{spec_of}
use Rattle.asm_check.specs.Shapes.{shape_of}
use Rattle.asm_meaning.specs.Declarations.{specification_of}
use Rattle.asm_explore.specs.code.ResolvedConditions.{term_holds, holds_in}
use Rattle.asm_explore.specs.code.MainRule.{IsMainOverLimit}
use Rattle.asm_graph.proofs.SameConditions.{same_graph, same_refusal}
use Rattle.asm_graph.proofs.graph_of_states.state_graph.Goals as goal

pub graph_of-requires : goal.graph_of-requires
graph_of-requires c = record {
  main = c.in_ok-code.ensures;
  always = c.in_ok-always.ensures.sound;
  within = c.in_ok-within.ensures.sound;
  when_quiet = c.in_ok-when_quiet.ensures.sound;
}

pub returns-clause-graph : goal.returns-clause-graph
returns-clause-graph c =
    let checked = c.args.checked.now in
    let q = c.args.question.now in
    let s = spec_of checked.spec in
    let shape = shape_of s in
    same_graph shape (specification_of s) q.turns (IsMainOverLimit checked q.turns q.outcomes) q.steps c.args.most
    (holds_in shape c.in_ok-within.within) (holds_in shape c.in_ok-always.always) (holds_in shape c.in_ok-when_quiet.when_quiet)
    (term_holds checked q.within) (term_holds checked q.always) (term_holds checked q.when_quiet) c.in_ok-graph.graph
    c.in_ok-within.ensures.means c.in_ok-always.ensures.means c.in_ok-when_quiet.ensures.means c.in_ok-graph.ensures.graph

pub returns-in_err-graph-clause-refused : goal.returns-in_err-graph-clause-refused
returns-in_err-graph-clause-refused c =
    let checked = c.args.checked.now in
    let q = c.args.question.now in
    let s = spec_of checked.spec in
    same_refusal (specification_of s) q.turns q.steps c.args.most (holds_in (shape_of s) c.in_ok-within.within) (term_holds checked q.within)
    c.from_residual-in_err-graph.result c.in_err-graph.field-0.0 c.from_residual-in_err-graph.ensures.1 c.in_ok-within.ensures.means c.in_err-graph.ensures.refused
