use Rattle.std.proofs.Common.{◌≡◌, ◌+◌, ◌<◌, ◌++◌, ◌∷◌, [], ◌∙◌, map, take, drop, length, true, ap, sym, subst, arith}
use Rattle.std.proofs.lemmas.List.{length-append}
use Rattle.asm_state.specs.Signature.{count_of, state_of}
use Rattle.asm_explore.specs.code.PackedNodes.{Node}
use Rattle.asm_explore.specs.code.OutcomeLists.{Each}
use Rattle.asm_explore.specs.code.ReachedStates.{state_at}
use Rattle.asm_explore.proofs.StateLemmas.Batches.{next_in, map_last, each_there}
use Rattle.asm_explore.proofs.OutcomeLemmas.ListLemmas.{each_append}
use Rattle.asm_explore.proofs.StateLemmas.MoreNodes.{some_at}
use Rattle.asm_explore.proofs.states.batch.next_states.Goals as goal

pub is_within-requires-clause-whole : goal.is_within-requires-clause-whole
is_within-requires-clause-whole g c =
    let a = c.args in
    let n = some_at a.nodes.now c.loop-number.number (omega (arith, c.loop-number-test.true, c.len-number-end.ensures)) in
    ap length (c.in_ok-state.ensures n.0 n.1)
    ∙ each_there (λ (n : Node). length n.state ≡ count_of (g.M.Machine.shape a.machine.now)) a.nodes.now c.loop-number.number n.0 c.requires.nodes n.1

pub loop-number-preserved : goal.loop-number-preserved
loop-number-preserved g c =
    let a = c.args in
    let l = c.loop-number in
    let n = some_at a.nodes.now l.number (omega (arith, c.loop-number-test.true, c.len-number-end.ensures)) in
    let i = length l.states.items in
    let size : length c.push.new.self.items ≡ i + 1 =
    ap length c.in_ok-push.ensures.items ∙ length-append l.states.items (c.in_ok-state.state ∷ []) in
    let more = next_in a.nodes.now a.first i l.number n.0 l.invariant.count n.1 in
    record {
      count = omega (arith, size, l.invariant.count);
      states = c.in_ok-push.ensures.items
          ∙ ap (λ xs. xs ++ c.in_ok-state.state ∷ []) l.invariant.states
          ∙ ap (λ x. map (λ (m : Node). m.state) (take i (drop a.first a.nodes.now)) ++ x ∷ []) (c.in_ok-state.ensures n.0 n.1)
          ∙ sym (map_last (take i (drop a.first a.nodes.now)) n.0)
          ∙ ap (map (λ (m : Node). m.state)) (sym more)
          ∙ ap (λ k. map (λ (m : Node). m.state) (take k (drop a.first a.nodes.now))) (sym size);
      inside = subst (λ k. Each (λ (m : Node). g.M.Machine.within a.machine.now (state_at (g.M.Machine.shape a.machine.now) m) ≡ true) (take k (drop a.first a.nodes.now))) (sym size)
          (subst (Each (λ (m : Node). g.M.Machine.within a.machine.now (state_at (g.M.Machine.shape a.machine.now) m) ≡ true)) (sym more)
          (each_append (λ (m : Node). g.M.Machine.within a.machine.now (state_at (g.M.Machine.shape a.machine.now) m) ≡ true) (take i (drop a.first a.nodes.now)) (n.0 ∷ []) l.invariant.inside
          (ap (λ xs. g.M.Machine.within a.machine.now (state_of (g.M.Machine.shape a.machine.now) xs)) (sym (c.in_ok-state.ensures n.0 n.1)) ∙ sym c.is_within.ensures ∙ c.if-not-is_within.false, tt)));
      shallow = subst (λ k. Each (λ (m : Node). m.depth < a.steps) (take k (drop a.first a.nodes.now))) (sym size)
          (subst (Each (λ (m : Node). m.depth < a.steps)) (sym more)
          (each_append (λ (m : Node). m.depth < a.steps) (take i (drop a.first a.nodes.now)) (n.0 ∷ []) l.invariant.shallow
          (omega (arith, c.if-depth-steps.false, c.depth.ensures n.0 n.1), tt)));
    }
