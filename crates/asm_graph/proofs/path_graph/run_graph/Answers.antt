use Rattle.std.proofs.Common.{subst}
use Rattle.asm_syntax.specs.code.Views.{spec_of}
use Rattle.asm_check.specs.Shapes.{shape_of}
use Rattle.asm_meaning.specs.Declarations.{specification_of}
use Rattle.asm_explore.specs.code.ResolvedConditions.{holds_in, term_holds}
use Rattle.asm_graph.specs.PathGraphs.{IsPathFrom}
use Rattle.asm_graph.proofs.WayLemmas.{same_way}
use Rattle.asm_graph.proofs.path_graph.run_graph.Goals as goal

pub invariant_of-specified : goal.invariant_of-specified
invariant_of-specified g c = record { turns_in_range = c.turns_of.type_inv }

pub path_of-requires : goal.path_of-requires
path_of-requires g c = record {
  main = c.in_ok-code.ensures;
  always = c.in_ok-always.ensures.sound;
  within = c.in_ok-within.ensures.sound;
  when_quiet = c.in_ok-when_quiet.ensures.sound;
}

pub returns : goal.returns
returns g c =
    let checked = c.args.checked.now in
    let q = c.args.question.now in
    let s = spec_of checked.spec in
    let shape = shape_of s in
    let is = c.in_ok-graph.ensures in
    let script = g.P.Picks.script c.args.script.now in
    let right = term_holds checked q.always in
    let rests = term_holds checked q.when_quiet in
    let path = same_way shape (holds_in shape c.in_ok-always.always) (holds_in shape c.in_ok-when_quiet.when_quiet) right rests c.in_ok-always.ensures.means c.in_ok-when_quiet.ensures.means
    (specification_of s) c.turns_of.result script c.args.limit 0 (specification_of s).initial c.in_ok-graph.graph.nodes.items c.in_ok-graph.graph.steps.items is.path in
    record {
      path = subst (λ k. IsPathFrom shape right rests (specification_of s) k script c.args.limit 0 (specification_of s).initial c.in_ok-graph.graph.nodes.items c.in_ok-graph.graph.steps.items) c.turns_of.ensures path;
      whole = is.whole;
      paired = is.paired;
    }
