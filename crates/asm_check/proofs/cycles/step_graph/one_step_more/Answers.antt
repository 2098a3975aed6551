use Rattle.std.proofs.Common.{◌+◌, ◌↔◌, IsTrue, length, sym, ap, subst, ◌∙◌}
use Rattle.std.proofs.lemmas.List.{length_push}
use Rattle.asm_check.specs.code.cycles.Graph.{next_of, step_lists}
use Rattle.asm_check.specs.code.cycles.MarkedNodes.{HasMarkedStep, is_marked}
use Rattle.asm_check.proofs.CycleLemmas.MarkedNodes.{answered}
use Rattle.asm_check.proofs.CycleLemmas.CycleSearchSteps.{next_is, items_within}
use Rattle.asm_check.proofs.cycles.step_graph.one_step_more.Goals as goal

pub is_some_marked-requires : goal.is_some_marked-requires
is_some_marked-requires c = items_within _ _ _ _ _ c.requires.graph c.loop-onward-test.true c.onward-item.is c.deref.ensures.value c.requires.len

pub loop-onward-preserved : goal.loop-onward-preserved
loop-onward-preserved c =
    let pushed = c.in_ok-push.ensures.items in
    let same = next_is _ _ _ c.loop-onward-test.true c.onward-item.is in
    record {
      len = ap length pushed ∙ length_push _ _ ∙ ap (λ n. n + 1) c.loop-onward.invariant.len;
      ways = λ n below.
          subst (λ xs. IsTrue (is_marked xs n) ↔ HasMarkedStep (next_of (step_lists c.args.steps.now) n) c.args.ways.now) (sym pushed)
          (answered (λ k. HasMarkedStep (next_of (step_lists c.args.steps.now) k) c.args.ways.now) _ _ _ c.loop-onward.invariant.len c.loop-onward.invariant.ways
          (subst (λ ns. IsTrue c.is_some_marked.result ↔ HasMarkedStep ns c.args.ways.now) (c.deref.ensures.value ∙ sym same) c.is_some_marked.ensures)
          n below);
    }
