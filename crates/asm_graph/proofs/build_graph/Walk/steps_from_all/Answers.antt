use Rattle.std.proofs.Common.{◌≡◌, ◌+◌, ◌<◌, ◌∙◌, ◌++◌, ◌∷◌, [], length, take, refl, ap, sym, subst, arith}
use Rattle.std.specs.Prelude.{Some, slice_get}
use Rattle.std.proofs.lemmas.List.{length-append, length_push, take_all}
use Rattle.asm_graph.specs.Graphs.{AreFound, IsShown, Pairs}
use Rattle.asm_graph.specs.code.GraphSoFar.{AreNear}
use Rattle.asm_graph.specs.code.ResolvedMachines.{crowds_in, rests_in, right_in, shape_in, specification_in, within_in}
use Rattle.asm_graph.proofs.FoundNodes.{first_more, found_more, next_more, none_found, one_shallow}
use Rattle.asm_graph.proofs.MoreNodes.{all_near_more, grown_shallow, shown_more}
use Rattle.asm_graph.proofs.Paired.{pairs_push, pairs_weaker, some_at, take_next}
use Rattle.asm_graph.proofs.build_graph.Walk.steps_from_all.Goals as goal

pub loop-made-init : goal.loop-made-init
loop-made-init c =
    let a = c.args in
    let shape = shape_in a.self.now.machine.now in
    let specification = specification_in a.self.now.machine.now in
    let turns = a.self.now.machine.now.turns in
    let within = within_in a.self.now.machine.now in
    let right = right_in a.self.now.machine.now in
    let rests = rests_in a.self.now.machine.now in
    let nodes = a.nodes.now.items in
    let shown = IsShown shape specification turns within (crowds_in a.self.now.machine.now) a.self.now.steps nodes in
    record {
      some = omega (arith, ap length c.requires.none);
      kept = c.requires.nodes;
      first = refl;
      next = λ n there. one_shallow nodes n c.requires.one (subst (λ j. slice_get nodes j ≡ Some n) (ap length c.requires.none) there);
      shown = subst (λ made. Pairs shown (take (length made) nodes) made) (sym c.requires.none) tt;
      near = subst (λ made. Pairs (AreNear nodes) (take (length made) nodes) made) (sym c.requires.none) tt;
      found = none_found nodes a.made.now.items c.requires.one;
    }

pub step_from-requires-clause-near : goal.step_from-requires-clause-near
step_from-requires-clause-near c = λ n there.
    let l = c.loop-made in
    let at : c.len-in-loop-made-2.result ≡ length l.made.items = omega (arith, c.len-in-loop-made-2.ensures, l.made.ok.0) in
    l.invariant.next n (sym (ap (slice_get l.nodes.items) at) ∙ there)

pub loop-made-preserved : goal.loop-made-preserved
loop-made-preserved c =
    let a = c.args in
    let shape = shape_in a.self.now.machine.now in
    let specification = specification_in a.self.now.machine.now in
    let turns = a.self.now.machine.now.turns in
    let within = within_in a.self.now.machine.now in
    let right = right_in a.self.now.machine.now in
    let rests = rests_in a.self.now.machine.now in
    let crowds = crowds_in a.self.now.machine.now in
    let l = c.loop-made in
    let old = l.nodes.items in
    let made = l.made.items in
    let k = length made in
    let step = c.in_ok-step.step in
    let low : k < length old = omega (arith, c.loop-made-test.true, c.len.ensures, c.len-in-loop-made.ensures) in
    let n = some_at old k low in
    let at : c.len-in-loop-made-2.result ≡ k = omega (arith, c.len-in-loop-made-2.ensures, l.made.ok.0) in
    let there : slice_get old c.len-in-loop-made-2.result ≡ Some n.0 = ap (slice_get old) at ∙ n.1 in
    let grows = c.in_ok-step.ensures.grows n.0 there in
    let new = c.step_from.new.nodes.items in
    let size : length new ≡ length old + length grows.more = ap length grows.is ∙ length-append old grows.more in
    let shown = IsShown shape specification turns within crowds a.self.now.steps in
    let shallow = grown_shallow shape specification turns within right rests a.self.now.steps a.self.now.most (n.0.depth + 1) old new grows (l.invariant.next n.0 n.1) in
    let count = ap length c.in_ok-push.ensures.items ∙ length_push made step in
    record {
      some = omega (arith, ap length c.in_ok-push.ensures.items, length_push made step, size, low);
      kept = grows.kept;
      first = first_more old grows.more new grows.is (omega (arith, low)) ∙ l.invariant.first;
      next = λ m next. next_more old grows.more new grows.is k n.0 n.1 grows.kept.rise shallow m (subst (λ j. slice_get new j ≡ Some m) count next);
      shown = subst (λ ss. Pairs (shown new) (take (length ss) new) ss) (sym c.in_ok-push.ensures.items)
          (subst (λ j. Pairs (shown new) (take j new) (made ++ step ∷ [])) (sym (length_push made step))
          (subst (λ ns. Pairs (shown new) ns (made ++ step ∷ [])) (sym (take_next old grows.more new k n.0 grows.is n.1))
          (pairs_push (shown new) (take k old) made n.0 step
          (pairs_weaker (shown old) (shown new) (shown_more old grows.more new grows.is shape specification turns within crowds a.self.now.steps) (take k old) made l.invariant.shown)
          (c.in_ok-step.ensures.shown n.0 there))));
      near = subst (λ ss. Pairs (AreNear new) (take (length ss) new) ss) (sym c.in_ok-push.ensures.items)
          (subst (λ j. Pairs (AreNear new) (take j new) (made ++ step ∷ [])) (sym (length_push made step))
          (subst (λ ns. Pairs (AreNear new) ns (made ++ step ∷ [])) (sym (take_next old grows.more new k n.0 grows.is n.1))
          (pairs_push (AreNear new) (take k old) made n.0 step
          (pairs_weaker (AreNear old) (AreNear new) (all_near_more old grows.more new grows.is) (take k old) made l.invariant.near)
          (c.in_ok-step.ensures.near n.0 there))));
      found = subst (AreFound new) (sym c.in_ok-push.ensures.items)
          (found_more old grows.more new grows.is k n.0 n.1 made step refl grows.deep c.in_ok-step.ensures.new l.invariant.found);
    }

pub returns-clause-shown : goal.returns-clause-shown
returns-clause-shown c =
    let a = c.args in
    let shape = shape_in a.self.now.machine.now in
    let specification = specification_in a.self.now.machine.now in
    let turns = a.self.now.machine.now.turns in
    let within = within_in a.self.now.machine.now in
    let right = right_in a.self.now.machine.now in
    let rests = rests_in a.self.now.machine.now in
    let l = c.loop-made in
    let shown = IsShown shape specification turns within (crowds_in a.self.now.machine.now) a.self.now.steps l.nodes.items in
    subst (λ ns. Pairs shown ns l.made.items) (take_all (length l.made.items) l.nodes.items (omega (arith, c.loop-made-test.false, c.len.ensures, c.len-in-loop-made.ensures))) l.invariant.shown

pub returns-clause-near : goal.returns-clause-near
returns-clause-near c =
    let l = c.loop-made in
    subst (λ ns. Pairs (AreNear l.nodes.items) ns l.made.items)
    (take_all (length l.made.items) l.nodes.items (omega (arith, c.loop-made-test.false, c.len.ensures, c.len-in-loop-made.ensures))) l.invariant.near
