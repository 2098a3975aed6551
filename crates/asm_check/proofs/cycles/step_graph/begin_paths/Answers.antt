use Rattle.std.proofs.Common.{◌≡◌, ◌<◌, ◌↔◌, ℕ, List, Bool, IsTrue, sym, subst, arith}
use Rattle.std.specs.Global.{Vec}
use Rattle.std.proofs.lemmas.List.{length-map}
use Rattle.asm_check.specs.code.cycles.Graph.{next_of, step_lists}
use Rattle.asm_check.specs.code.cycles.MarkedNodes.{HasMarkedStep, is_marked}
use Rattle.asm_check.specs.CallGraph.{BeginsPath}
use Rattle.asm_check.proofs.CycleLemmas.MarkedNodes.{longer_ways, answers}
use Rattle.asm_check.proofs.cycles.step_graph.begin_paths.Goals as goal

-- the rounds that were counted are all of them
module _ (vs : List (Vec ℕ)) (ways : List Bool) (k n len : ℕ) (all : k ≡ n)
    (are : (i : ℕ) → i < len → IsTrue (is_marked ways i) ↔ BeginsPath (next_of (step_lists vs)) k i) where
  whole : (i : ℕ) → i < len → IsTrue (is_marked ways i) ↔ BeginsPath (next_of (step_lists vs)) n i
  whole = subst (λ j. (i : ℕ) → i < len → IsTrue (is_marked ways i) ↔ BeginsPath (next_of (step_lists vs)) j i) all are

pub loop-preserved : goal.loop-preserved
loop-preserved c = record {
  len = c.in_ok-ways-2.ensures.len;
  ways = longer_ways (step_lists c.args.steps.now) c.loop.counter _ (sym (length-map c.args.steps.now (λ (v : Vec ℕ). v.items))) _ _ c.requires c.loop.invariant.ways
      (λ n below. subst (λ xs. IsTrue (is_marked c.in_ok-ways-2.ways.items n) ↔ HasMarkedStep (next_of (step_lists c.args.steps.now) n) xs) c.deref.ensures.value (c.in_ok-ways-2.ensures.ways n below));
}

pub returns-clause-ways : goal.returns-clause-ways
returns-clause-ways c =
    let all : c.loop.counter ≡ c.args.count = omega arith in
    λ n. (answers _ _ _ c.loop.invariant.len (whole c.args.steps.now _ _ _ _ all c.loop.invariant.ways) n).0

pub returns-clause-none : goal.returns-clause-none
returns-clause-none c =
    let all : c.loop.counter ≡ c.args.count = omega arith in
    λ n. (answers _ _ _ c.loop.invariant.len (whole c.args.steps.now _ _ _ _ all c.loop.invariant.ways) n).1
