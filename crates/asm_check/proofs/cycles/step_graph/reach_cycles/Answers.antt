use Rattle.std.proofs.Common.{◌≡◌, ◌<◌, ◌≤◌, ◌∙◌, ℕ, List, [], map, length, sym, ap, subst, arith}
use Rattle.std.specs.Prelude.{slice_get}
use Rattle.std.specs.Global.{Vec}
use Rattle.std.proofs.lemmas.List.{length-map}
use Rattle.std.proofs.lemmas.Result.{IfOk-weaker}
use Rattle.asm_check.specs.declared.cycles.cycle_search.Search.{Search}
use Rattle.asm_check.specs.code.cycles.Graph.{step_lists}
use Rattle.asm_check.specs.code.cycles.CycleSearch.{IsSearch, IsSearchOf, IsMet, is_reaching}
use Rattle.asm_check.proofs.CycleLemmas.CycleSearchSteps.{found_reaching, found_settled}
use Rattle.asm_check.proofs.cycles.step_graph.reach_cycles.Goals as goal

-- a search that has come to no path, and has met all nodes
ended : (vs : List (Vec ℕ)) (s : Search) → IsSearchOf (step_lists vs) s → s.path.items ≡ [] → IsSearch (step_lists vs) s.marks.items s.looked.items []
ended vs s is none = subst (IsSearch (step_lists vs) s.marks.items s.looked.items) none is

all_met : (vs : List (Vec ℕ)) (s : Search) (k : ℕ) → length vs ≤ k → ((n : ℕ) → n < k → IsMet s n) → (n : ℕ) → n < length (step_lists vs) → IsMet s n
all_met vs s k all met n below = let count = length-map vs (λ (v : Vec ℕ). v.items) in met n (omega arith)

pub returns-clause-reach : goal.returns-clause-reach
returns-clause-reach c =
    IfOk-weaker c.are_reaching.result _ _
    (λ reach is n at.
    found_reaching _ _ _ (ended c.args.steps.now c.loop-node.search c.loop-node.invariant.search c.loop-node.invariant.path) (all_met c.args.steps.now c.loop-node.search _ c.loop-node-test.false c.loop-node.invariant.met) n
    (ap (λ xs. slice_get xs n) (sym (is ∙ ap (map is_reaching) c.deref.ensures.value)) ∙ at))
    c.are_reaching.ensures

pub returns-clause-settled : goal.returns-clause-settled
returns-clause-settled c =
    IfOk-weaker c.are_reaching.result _ _
    (λ reach is n at.
    found_settled _ _ _ (ended c.args.steps.now c.loop-node.search c.loop-node.invariant.search c.loop-node.invariant.path) (all_met c.args.steps.now c.loop-node.search _ c.loop-node-test.false c.loop-node.invariant.met) n
    (ap (λ xs. slice_get xs n) (sym (is ∙ ap (map is_reaching) c.deref.ensures.value)) ∙ at))
    c.are_reaching.ensures
