use Rattle.std.proofs.Common.{◌≡◌, ◌+◌, ◌-◌, ◌<◌, ◌∙◌, ◌∷◌, [], ap, arith, length, refl, suc, sym}
use Rattle.std.specs.List.{position}
use Rattle.asm_explore.specs.TakenChoices.{Situation}
use Rattle.asm_graph.specs.Paths.{is_among, run_edges, takes, walk}
use Rattle.asm_graph.proofs.WalkLemmas.{all_marked, found_within, more_marked, walk_ends, walk_ends_at, walk_goes_on, walk_here, within}
use Rattle.asm_graph.proofs.run_edges.run_marks.Goals as goal

pub returns-in_default : goal.returns-in_default
returns-in_default g c = λ i k.
    let steps = c.as_slice-steps.result.now in
    let script = g.P.Picks.script c.args.script.now in
    let l = c.loop-done in
    let s : Situation = record { script = script; step = l.done + 1 } in
    let left : c.args.limit - l.done ≡ suc (c.args.limit - (l.done + 1)) = omega (arith, c.loop-done-test.true) in
    let taken = ap (position (takes s)) (sym c.edges_from-edges.ensures) ∙ sym c.taken_edge.ensures ∙ c.in_default.is in
    let none : walk steps script (c.args.limit - l.done) (l.done + 1) l.node ≡ [] = ap (λ n. walk steps script n (l.done + 1) l.node) left ∙ walk_ends steps script (c.args.limit - (l.done + 1)) (l.done + 1) l.node taken in
    all_marked (run_edges steps script c.args.limit) _ l.marks l.invariant.marked none i k ∙ ap (λ ss. is_among (run_edges ss script c.args.limit) i k) c.as_slice-steps.ensures.value

pub add-requires : goal.add-requires
add-requires g c =
    let steps = c.as_slice-steps.result.now in
    let l = c.loop-done in
    let s : Situation = record { script = g.P.Picks.script c.args.script.now; step = l.done + 1 } in
    let es = c.edges_from-edges.result.now in
    let found = sym c.taken_edge.ensures ∙ c.in-Some.is in
    let here = walk_here steps (g.P.Picks.script c.args.script.now) (l.done + 1) l.node c.in-Some.number es c.index-edges-number.result c.edges_from-edges.ensures found (found_within (takes s) es c.in-Some.number found) c.index-edges-number.is in
    let low : l.node < length steps = within steps l.node c.in-Some.number c.index-edges-number.result here.1 in
    omega (arith, low, l.invariant.count)

pub returns-in-Fault : goal.returns-in-Fault
returns-in-Fault g c = λ i k.
    let steps = c.as_slice-steps.result.now in
    let script = g.P.Picks.script c.args.script.now in
    let l = c.loop-done in
    let s : Situation = record { script = script; step = l.done + 1 } in
    let es = c.edges_from-edges.result.now in
    let e = c.index-edges-number.result in
    let number = c.in-Some.number in
    let found = sym c.taken_edge.ensures ∙ c.in-Some.is in
    let here = walk_here steps script (l.done + 1) l.node number es e c.edges_from-edges.ensures found (found_within (takes s) es number found) c.index-edges-number.is in
    let left : c.args.limit - l.done ≡ suc (c.args.limit - (l.done + 1)) = omega (arith, c.loop-done-test.true) in
    let rest = ap (λ n. walk steps script n (l.done + 1) l.node) left
    ∙ walk_ends_at steps script (c.args.limit - (l.done + 1)) (l.done + 1) l.node number e c.in-Fault.field-0 here.0 here.1 c.in-Fault.is in
    let marked = more_marked (run_edges steps script c.args.limit) _ [] l.node number l.marks c.add.new.self l.invariant.marked rest c.in_ok-add.ensures.more in
    all_marked (run_edges steps script c.args.limit) [] c.add.new.self marked refl i k ∙ ap (λ ss. is_among (run_edges ss script c.args.limit) i k) c.as_slice-steps.ensures.value

pub loop-done-preserved : goal.loop-done-preserved
loop-done-preserved g c =
    let steps = c.as_slice-steps.result.now in
    let script = g.P.Picks.script c.args.script.now in
    let l = c.loop-done in
    let s : Situation = record { script = script; step = l.done + 1 } in
    let es = c.edges_from-edges.result.now in
    let e = c.index-edges-number.result in
    let number = c.in-Some.number in
    let next = c.in-Node.next in
    let found = sym c.taken_edge.ensures ∙ c.in-Some.is in
    let here = walk_here steps script (l.done + 1) l.node number es e c.edges_from-edges.ensures found (found_within (takes s) es number found) c.index-edges-number.is in
    let left : c.args.limit - l.done ≡ suc (c.args.limit - (l.done + 1)) = omega (arith, c.loop-done-test.true) in
    let up : suc (l.done + 1) ≡ l.done + 1 + 1 = omega arith in
    let rest = ap (λ n. walk steps script n (l.done + 1) l.node) left
    ∙ walk_goes_on steps script (c.args.limit - (l.done + 1)) (l.done + 1) l.node number next e here.0 here.1 c.in-Node.is
    ∙ ap (λ n. (l.node, number) ∷ walk steps script (c.args.limit - (l.done + 1)) n next) up in
    record {
      marked = more_marked (run_edges steps script c.args.limit) _ _ l.node number l.marks c.add.new.self l.invariant.marked rest c.in_ok-add.ensures.more;
      count = c.in_ok-add.ensures.count ∙ l.invariant.count;
    }
