use Rattle.std.proofs.Common.{◌≡◌, ◌+◌, ◌-◌, ◌∙◌, ◌∷◌, [], ap, arith, length, refl, subst, suc, sym}
use Rattle.asm_state.specs.Signature.{Shape, count_of, initial_state, state_of}
use Rattle.asm_state.specs.code.Contents.{IsStateOf}
use Rattle.asm_syntax.specs.code.Views.{spec_of}
use Rattle.asm_check.specs.Shapes.{shape_of}
use Rattle.asm_meaning.specs.Declarations.{specification_of}
use Rattle.asm_explore.specs.ListElements.{Each}
use Rattle.asm_explore.specs.code.ResolvedConditions.{holds_in}
use Rattle.asm_graph.specs.PathGraphs.{IsPathFrom}
use Rattle.asm_graph.specs.code.WaySoFar.{GoesOn}
use Rattle.asm_graph.specs.declared.graph.Node.{Node}
use Rattle.asm_graph.specs.declared.graph.Step.TheVariants.{Cut}
use Rattle.asm_graph.proofs.WayLemmas.{paired_more, way_begins, way_ended, way_longer, whole_more}
use Rattle.asm_graph.proofs.path_graph.path_of.Goals as goal

pub loop-done-init : goal.loop-done-init
loop-done-init g c =
    let m = c.args.specified.now in
    let s = spec_of m.checked.now.spec in
    let shape = shape_of s in
    let same = c.signature.ensures in
    let begin : state_of shape c.in_ok-state.state ≡ (specification_of s).initial = subst (λ (sh : Shape). state_of sh c.in_ok-state.state ≡ initial_state sh) same c.in_ok-state.ensures.initial in
    record {
      state = subst (λ (sh : Shape). IsStateOf sh c.in_ok-state.state) same c.in_ok-state.ensures.state;
      nodes = subst (Each (λ (n : Node). length n.state ≡ count_of shape)) (sym c.new.ensures.items) tt;
      paired = ap length c.new-2.ensures.items ∙ sym (ap length c.new.ensures.items);
      path = way_begins shape (holds_in shape m.always.now) (holds_in shape m.when_quiet.now) (specification_of s) m.turns (g.P.Picks.script c.args.script.now) c.args.limit (state_of shape c.in_ok-state.state)
          c.new.result.items c.new-2.result.items c.new.ensures.items c.new-2.ensures.items begin;
    }

pub returns-in-None : goal.returns-in-None
returns-in-None g c =
    let m = c.args.specified.now in
    let s = spec_of m.checked.now.spec in
    let shape = shape_of s in
    let right = holds_in shape m.always.now in
    let rests = holds_in shape m.when_quiet.now in
    let script = g.P.Picks.script c.args.script.now in
    let l = c.loop-done in
    let A = state_of shape l.state in
    let way = c.in_ok-next.ensures in
    let goes = subst (GoesOn shape right rests (specification_of s) m.turns script l.done A way.more.node way.step) c.in-None.is way.goes in
    let left : c.args.limit - l.done ≡ suc (c.args.limit - (l.done + 1)) = omega (arith, c.loop-done-test.true) in
    let here = subst (λ k. IsPathFrom shape right rests (specification_of s) m.turns script k l.done A (way.more.node ∷ []) (way.step ∷ [])) (sym left) (goes (c.args.limit - (l.done + 1))) in
    record {
      path = way_ended shape right rests (specification_of s) m.turns script c.args.limit l.done A l.graph.nodes.items c.step_on.new.graph.nodes.items l.graph.steps.items c.step_on.new.graph.steps.items
          way.more.node way.step way.more.nodes way.more.steps here l.invariant.path;
      whole = whole_more shape right rests A way.step l.graph c.step_on.new.graph way.more l.invariant.nodes;
      paired = paired_more shape right rests A way.step l.graph c.step_on.new.graph way.more l.invariant.paired;
    }

pub loop-done-preserved : goal.loop-done-preserved
loop-done-preserved g c =
    let m = c.args.specified.now in
    let s = spec_of m.checked.now.spec in
    let shape = shape_of s in
    let right = holds_in shape m.always.now in
    let rests = holds_in shape m.when_quiet.now in
    let script = g.P.Picks.script c.args.script.now in
    let l = c.loop-done in
    let A = state_of shape l.state in
    let way = c.in_ok-next.ensures in
    let goes = subst (GoesOn shape right rests (specification_of s) m.turns script l.done A way.more.node way.step) c.in-Some.is way.goes in
    record {
      state = goes.0;
      nodes = whole_more shape right rests A way.step l.graph c.step_on.new.graph way.more l.invariant.nodes;
      paired = paired_more shape right rests A way.step l.graph c.step_on.new.graph way.more l.invariant.paired;
      path = way_longer shape right rests (specification_of s) m.turns script c.args.limit l.done A c.in-Some.next l.graph.nodes.items c.step_on.new.graph.nodes.items l.graph.steps.items
          c.step_on.new.graph.steps.items way.more.node way.step c.loop-done-test.true way.more.nodes way.more.steps goes l.invariant.path;
    }

pub returns : goal.returns
returns g c =
    let m = c.args.specified.now in
    let s = spec_of m.checked.now.spec in
    let shape = shape_of s in
    let right = holds_in shape m.always.now in
    let rests = holds_in shape m.when_quiet.now in
    let script = g.P.Picks.script c.args.script.now in
    let l = c.loop-done in
    let A = state_of shape l.state in
    let more = c.in_ok-add_node.ensures in
    let left : c.args.limit - l.done ≡ 0 = omega (arith, c.loop-done-test.false) in
    let here = subst (λ k. IsPathFrom shape right rests (specification_of s) m.turns script k l.done A (more.node ∷ []) (Cut ∷ [])) (sym left) (more.is_node, refl, (refl, refl)) in
    record {
      path = way_ended shape right rests (specification_of s) m.turns script c.args.limit l.done A l.graph.nodes.items c.add_node.new.graph.nodes.items l.graph.steps.items c.add_node.new.graph.steps.items
          more.node Cut more.nodes more.steps here l.invariant.path;
      whole = whole_more shape right rests A Cut l.graph c.add_node.new.graph more l.invariant.nodes;
      paired = paired_more shape right rests A Cut l.graph c.add_node.new.graph more l.invariant.paired;
    }
