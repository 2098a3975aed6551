-- Free. What a refusal says.
use Rattle.std.proofs.Common.{◌≡◌, ◌<◌, ◌++◌, drop, ◌-◌, ◌+◌, suc, true, cond, Some, sym, ap, subst, ◌∙◌, arith, length, map, refl}
use Rattle.asm_state.specs.Words.{value_of_code}
use Rattle.asm_meaning.specs.Yields.{at}
use Rattle.asm_code.specs.code.Readings.{universe_at}
use Rattle.asm_code.specs.code.RuleTree as tree
use Rattle.asm_code.specs.code.RuleViews.{rule_of, rules_of}
use Rattle.asm_eval.specs.code.Evaluation.{passes_in}
use Rattle.asm_explore.specs.code.ExploredRules.{exploration_shape, exploration_state, here_on, made_on, makes_on, parts_made_on, order_made_on}
use Rattle.asm_explore.specs.code.OutcomeLists.{HaveChoices}
use Rattle.asm_explore.specs.code.ChoicesMade.{AreMade, IsWay}
use Rattle.asm_explore.specs.code.ChoicesMadeSoFar.{MadeSoFar, MakesOfAll, MakesTo}
use Rattle.asm_explore.specs.code.ChoicePaths.{IsPlacedFrom, IsPlacedBefore}
use Rattle.asm_explore.specs.code.OverLimit.{IsAmong, AreDifferent, Refuses}
use Rattle.asm_explore.specs.code.ChoiceLists.{choice_lists}
use Rattle.asm_explore.proofs.OutcomeLemmas.OverLimit.{refuses_on, front_next, front_one}
use Rattle.asm_explore.specs.code.Sequences.{HasSet}
use Rattle.asm_explore.proofs.CodeLists.{universe_here}
use Rattle.asm_explore.proofs.OutcomeLemmas.ListLemmas.{each_at}
use Rattle.asm_explore.proofs.ChoiceLemmas.MadeInOrder.{part_refused, sorted_refused}
use Rattle.asm_explore.proofs.ChoiceLemmas.ChoicesMade as makings
use Rattle.asm_explore.proofs.OutcomeLemmas.RefusedParts.{exit_part, exit_wider, exit_chosen, picked_refused, beside_refused, closed_refused}
use Rattle.asm_explore.proofs.Elements.{any_first}
use Rattle.asm_explore.proofs.OutcomeLemmas.SequenceOutcomes.{both_placed}
use Rattle.asm_explore.proofs.OutcomeLemmas.RuleOutcomes.{is_passing}
use Rattle.asm_explore.proofs.OutcomeLemmas.ListedRules.{refused_list, exit_list}
use Rattle.asm_explore.proofs.outcomes.list_outcomes.+list.Goals as goal

pub list_part-returns-in_err-found : goal.list_part-returns-in_err-found
list_part-returns-in_err-found t c =
    let a = c.args in
    let refusal = c.in_err-found.field-0.0 in
    refused_list a.exploration.now (at a.path.now a.number) _ _ c.from_residual-in_err-found.result refusal c.from_residual-in_err-found.ensures.1
    (subst (λ q. Refuses a.exploration.now.limit (λ r. IsWay q (makes_on a.exploration.now a.frame.now q (rule_of a.rule.now))) refusal)
    (c.as_slice.ensures ∙ c.in_ok-below.ensures) c.in_err-found.ensures.crowded)

pub list_all-returns-in_err-part : goal.list_all-returns-in_err-part
list_all-returns-in_err-part t c =
    let a = c.args in
    let l = c.loop-i in
    let low : l.i - 1 < length a.parts.now = omega (arith, l.invariant.within, c.loop-i-test.true) in
    exit_list a.exploration.now a.path.now _ _ c.from_residual-in_err-part.result c.in_err-part.field-0.0 c.from_residual-in_err-part.ensures.1
    (exit_part a.exploration.now.limit a.path.now _ _ (l.i - 1) (makings.part_within a.exploration.now a.frame.now a.path.now a.parts.now (l.i - 1) c.index-parts-i.result low c.index-parts-i.is)
    c.from_residual-in_err-part.result c.in_err-part.field-0.0 c.from_residual-in_err-part.ensures.1 c.in_err-part.ensures.crowded)

pub list_all-returns-in_err-more : goal.list_all-returns-in_err-more
list_all-returns-in_err-more t c =
    let a = c.args in
    let l = c.loop-i in
    let p = a.path.now in
    let k = l.i - 1 in
    let low : l.i - 1 < length a.parts.now = omega (arith, l.invariant.within, c.loop-i-test.true) in
    let back : l.i ≡ l.i - 1 + 1 = omega (arith, c.loop-i-test.true) in
    let makes = makes_on a.exploration.now a.frame.now (at p k) (rule_of c.index-parts-i.result) in
    let left = makings.parts_left a.exploration.now a.frame.now p a.parts.now in
    let whole = parts_made_on a.exploration.now a.frame.now p (rules_of (map rule_of a.parts.now)) in
    refused_list a.exploration.now a.path.now _ _ c.from_residual-in_err-more.result c.in_err-more.field-0.0 c.from_residual-in_err-more.ensures.1
    (beside_refused a.exploration.now.limit p k makes (left (k + 1)) whole
    (λ s one there. makings.parts_within a.exploration.now a.frame.now p a.parts.now k (omega (arith, low)) s one
    (subst (IsAmong one) (makings.parts_next a.exploration.now a.frame.now p a.parts.now k c.index-parts-i.result low c.index-parts-i.is s) there))
    c.in_ok-part.part.items l.found.items c.in_ok-part.ensures.differ l.invariant.differ c.in_ok-part.ensures.placed c.in_ok-part.ensures.made
    (subst (λ j. HaveChoices (IsPlacedFrom p j) l.found.items) back l.invariant.placed) (subst (λ j. HaveChoices (AreMade (left j)) l.found.items) back l.invariant.made)
    c.in_err-more.field-0.0 c.in_err-more.ensures.names c.in_err-more.ensures.crowd)

pub list_each-returns-in_err-more : goal.list_each-returns-in_err-more
list_each-returns-in_err-more t c =
    let a = c.args in
    let l = c.loop-i in
    let us = c.universe-universe.result.now in
    let v = value_of_code c.unbranded_code.result.value in
    let low : l.i - 1 < length us = omega (arith, l.invariant.within, c.loop-i-test.true) in
    let back : l.i ≡ l.i - 1 + 1 = omega (arith, c.loop-i-test.true) in
    let so = is_passing a.exploration.now a.frame.now a.path.now a.over a.test.now a.body.now v in
    let makes = makings.value_makes a.exploration.now a.frame.now a.path.now a.body.now v (l.i - 1) in
    let more = makings.each_left a.exploration.now a.frame.now a.path.now a.over a.test.now a.body.now (length us) us in
    let same : universe_at (exploration_shape a.exploration.now) a.over ≡ us = universe_here (exploration_shape a.exploration.now).universes a.over us c.universe-universe.ensures in
    exit_list a.exploration.now a.path.now _ _ c.from_residual-in_err-more.result c.in_err-more.field-0.0 c.from_residual-in_err-more.ensures.1
    (exit_wider a.exploration.now.limit a.path.now (λ s. cond so (makes s ++ more l.i s) (more l.i s)) _
    (λ s one there. makings.each_within a.exploration.now a.frame.now a.path.now a.over a.test.now a.body.now us (l.i - 1) (omega (arith, low)) same s one
    (subst (IsAmong one) (ap (λ k. cond so (makes s ++ more k s) (more k s)) back
    ∙ makings.elements_next a.exploration.now a.frame.now a.path.now a.over a.test.now a.body.now (length us) us (l.i - 1) v low (c.element.ensures ∙ ap Some (sym c.unbranded_code.ensures)) s so refl) there))
    c.from_residual-in_err-more.result c.in_err-more.field-0.0 c.from_residual-in_err-more.ensures.1
    (c.in_err-more.ensures.crowded (more l.i) l.invariant.made (subst (λ k. HaveChoices (IsPlacedFrom a.path.now k) l.found.items) back l.invariant.placed) l.invariant.differ))

pub list_element-returns-in_err-part-clause-crowded : goal.list_element-returns-in_err-part-clause-crowded
list_element-returns-in_err-part-clause-crowded t c = λ m after placed differ.
    let a = c.args in
    let makes = makes_on a.exploration.now a.frame.now (at a.path.now a.number) (rule_of a.body.now) in
    exit_part a.exploration.now.limit a.path.now _ _ a.number
    (λ s one there. subst (IsAmong one) (ap (λ b. cond b (makes s ++ m s) (m s)) (sym c.if-passes.true ∙ c.passes.ensures)) (any_first (λ d. d ≡ one) (makes s) (m s) there))
    c.from_residual.result c.in_err-part.field-0.0 c.from_residual.ensures.1 c.in_err-part.ensures.crowded

pub list_element-returns-in_err-found-clause-crowded : goal.list_element-returns-in_err-found-clause-crowded
list_element-returns-in_err-found-clause-crowded t c = λ m after placed differ.
    let a = c.args in
    let p = a.path.now in
    let makes = makes_on a.exploration.now a.frame.now (at p a.number) (rule_of a.body.now) in
    let so = passes_in a.exploration.now.view.now a.frame.now a.test.now in
    refuses_on a.exploration.now.limit (λ q. IsWay p (λ s. cond so (makes s ++ m s) (m s))) c.from_residual-in_err-found.result c.in_err-found.field-0.0 c.from_residual-in_err-found.ensures.1
    (beside_refused a.exploration.now.limit p a.number makes m (λ s. cond so (makes s ++ m s) (m s)) (λ s one. subst (IsAmong one) (ap (λ b. cond b (makes s ++ m s) (m s)) (sym c.if-passes.true ∙ c.passes.ensures)))
    c.in_ok-part.part.items a.after.items c.in_ok-part.ensures.differ differ c.in_ok-part.ensures.placed c.in_ok-part.ensures.made placed after
    c.in_err-found.field-0.0 c.in_err-found.ensures.names c.in_err-found.ensures.crowd)

pub list_choose-returns-in_err-part : goal.list_choose-returns-in_err-part
list_choose-returns-in_err-part t c =
    let a = c.args in
    let l = c.loop-k in
    let p = a.path.now in
    let v = value_of_code c.unbranded_code.result.value in
    let makes = makings.value_makes a.exploration.now a.frame.now p a.body.now v 0 in
    let whole = makings.choose_makes a.exploration.now a.frame.now p a.over a.test.now a.body.now a.none.now in
    let taken = makings.taken_makes a.exploration.now a.frame.now p a.over a.test.now a.body.now a.none.now c.as_slice-all.result.now (c.as_slice-all.ensures.value ∙ c.in_ok-values.ensures)
    l.k v (c.candidate_at-value.ensures ∙ ap Some (sym c.unbranded_code.ensures)) in
    exit_list a.exploration.now a.path.now _ _ c.from_residual-in_err-part.result c.in_err-part.field-0.0 c.from_residual-in_err-part.ensures.1
    (exit_chosen a.exploration.now.limit p makes whole l.k taken c.from_residual-in_err-part.result c.in_err-part.field-0.0 c.from_residual-in_err-part.ensures.1 c.in_err-part.ensures.crowded)

pub list_choose-returns-in_err-add_part : goal.list_choose-returns-in_err-add_part
list_choose-returns-in_err-add_part t c =
    let a = c.args in
    let l = c.loop-k in
    let p = a.path.now in
    let v = value_of_code c.unbranded_code.result.value in
    let makes = makings.value_makes a.exploration.now a.frame.now p a.body.now v 0 in
    let whole = makings.choose_makes a.exploration.now a.frame.now p a.over a.test.now a.body.now a.none.now in
    let taken = makings.taken_makes a.exploration.now a.frame.now p a.over a.test.now a.body.now a.none.now c.as_slice-all.result.now (c.as_slice-all.ensures.value ∙ c.in_ok-values.ensures)
    l.k v (c.candidate_at-value.ensures ∙ ap Some (sym c.unbranded_code.ensures)) in
    refused_list a.exploration.now a.path.now _ _ c.from_residual-in_err-add_part.result c.in_err-add_part.field-0.0 c.from_residual-in_err-add_part.ensures.1
    (picked_refused a.exploration.now.limit p makes whole l.k taken c.in_ok-part.part.items l.found.items l.invariant.differ l.invariant.takes c.in_ok-part.ensures.differ
    c.in_ok-part.ensures.placed c.in_ok-part.ensures.made l.invariant.placed l.invariant.made
    c.in_err-add_part.field-0.0 c.in_err-add_part.ensures.names c.in_err-add_part.ensures.crowd)

pub list_in_order-returns-in_err-next : goal.list_in_order-returns-in_err-next
list_in_order-returns-in_err-next t c =
    let a = c.args in
    let l = c.loop-i in
    let total = order_made_on a.exploration.now a.frame.now a.path.now (rules_of (map rule_of a.parts.now)) in
    let left = makings.order_left a.exploration.now a.frame.now a.path.now a.parts.now in
    let front = sym c.as_slice-front.ensures.value in
    refused_list a.exploration.now a.path.now _ _ c.from_residual-in_err-next.result c.in_err-next.field-0.0 c.from_residual-in_err-next.ensures.1
    (c.in_err-next.ensures.crowded total (left l.i) (left (l.i + 1))
    (makings.order_steps a.exploration.now a.frame.now a.path.now a.parts.now l.i c.index-parts-i.result c.loop-i-test.true c.index-parts-i.is)
    (subst (MadeSoFar (exploration_shape a.exploration.now) (exploration_state a.exploration.now) total (left l.i) l.sorted.done.items) front l.invariant.made)
    (subst (HaveChoices (IsPlacedBefore a.path.now l.i)) front l.invariant.placed.1) l.invariant.placed.0
    (subst (λ fs. AreDifferent a.path.now (choice_lists l.sorted.done.items ++ choice_lists fs)) front l.invariant.differ))

pub list_in_order-returns-in_err-found : goal.list_in_order-returns-in_err-found
list_in_order-returns-in_err-found t c =
    let a = c.args in
    let l = c.loop-i in
    let total = order_made_on a.exploration.now a.frame.now a.path.now (rules_of (map rule_of a.parts.now)) in
    refused_list a.exploration.now a.path.now _ _ c.from_residual-in_err-found.result c.in_err-found.field-0.0 c.from_residual-in_err-found.ensures.1
    (closed_refused a.exploration.now.limit a.path.now total l.sorted l.invariant.differ (both_placed a.path.now l.i l.sorted l.invariant.placed) l.invariant.made.done_made l.invariant.made.front_made
    c.in_err-found.field-0.0 c.in_err-found.ensures.names c.in_err-found.ensures.crowd)

pub list_turns-returns-in_err-next : goal.list_turns-returns-in_err-next
list_turns-returns-in_err-next t c =
    let a = c.args in
    let l = c.loop-turn in
    let R = rule_of a.body.now in
    let total = makes_on a.exploration.now a.frame.now a.path.now (tree.Iterate R) in
    let left = makings.turns_left a.exploration.now a.frame.now a.path.now R in
    let one : suc (a.exploration.now.turns - (l.turn + 1)) ≡ a.exploration.now.turns - l.turn = omega (arith, c.loop-turn-test.true) in
    let front = sym c.as_slice-front.ensures.value in
    let number = sym c.from-number.ensures in
    refused_list a.exploration.now a.path.now _ _ c.from_residual-in_err-next.result c.in_err-next.field-0.0 c.from_residual-in_err-next.ensures.1
    (c.in_err-next.ensures.crowded total (left (a.exploration.now.turns - l.turn) l.turn) (left (a.exploration.now.turns - (l.turn + 1)) (l.turn + 1))
    (subst (λ k. MakesTo true (here_on a.exploration.now a.frame.now (at a.path.now k) R) (made_on a.exploration.now a.frame.now (at a.path.now k) R) (left (a.exploration.now.turns - l.turn) l.turn) (left (a.exploration.now.turns - (l.turn + 1)) (l.turn + 1))) number
    (subst (λ n. MakesTo true (here_on a.exploration.now a.frame.now (at a.path.now l.turn) R) (made_on a.exploration.now a.frame.now (at a.path.now l.turn) R) (left n l.turn) (left (a.exploration.now.turns - (l.turn + 1)) (l.turn + 1))) one
    (makings.turn_steps a.exploration.now a.frame.now a.path.now R (a.exploration.now.turns - (l.turn + 1)) l.turn)))
    (subst (MadeSoFar (exploration_shape a.exploration.now) (exploration_state a.exploration.now) total (left (a.exploration.now.turns - l.turn) l.turn) l.sorted.done.items) front l.invariant.made)
    (subst (λ n. HaveChoices (IsPlacedBefore a.path.now n) c.as_slice-front.result.now) number (subst (HaveChoices (IsPlacedBefore a.path.now l.turn)) front l.invariant.placed.1))
    (subst (λ n. HaveChoices (IsPlacedBefore a.path.now n) l.sorted.done.items) number l.invariant.placed.0)
    (subst (λ fs. AreDifferent a.path.now (choice_lists l.sorted.done.items ++ choice_lists fs)) front l.invariant.differ))

pub list_turns-returns-in_err-found : goal.list_turns-returns-in_err-found
list_turns-returns-in_err-found t c =
    let a = c.args in
    let l = c.loop-turn in
    let total = makes_on a.exploration.now a.frame.now a.path.now (tree.Iterate (rule_of a.body.now)) in
    refused_list a.exploration.now a.path.now _ _ c.from_residual-in_err-found.result c.in_err-found.field-0.0 c.from_residual-in_err-found.ensures.1
    (closed_refused a.exploration.now.limit a.path.now total l.sorted l.invariant.differ (both_placed a.path.now l.turn l.sorted l.invariant.placed) l.invariant.made.done_made l.invariant.made.front_made
    c.in_err-found.field-0.0 c.in_err-found.ensures.names c.in_err-found.ensures.crowd)

pub list_next-returns-in_err-list_one-clause-crowded : goal.list_next-returns-in_err-list_one-clause-crowded
list_next-returns-in_err-list_one-clause-crowded t c = λ total left left_then steps so_far h g differ.
    let a = c.args in
    let l = c.loop-i in
    let one = c.index-front-i.result in
    refuses_on a.exploration.now.limit (λ q. IsWay a.path.now total) c.from_residual.result c.in_err-list_one.field-0.0 c.from_residual.ensures.1
    (c.in_err-list_one.ensures.crowded total left left_then steps
    (each_at (λ f. AreMade total f.choices) a.front.now l.i one c.loop-i-test.true c.index-front-i.is so_far.front_made)
    (each_at (HasSet (exploration_shape a.exploration.now) (MakesOfAll (exploration_state a.exploration.now) total left)) a.front.now l.i one c.loop-i-test.true c.index-front-i.is so_far.front_on)
    (l.invariant.made total left left_then steps so_far)
    (each_at (λ f. IsPlacedBefore a.path.now a.number f.choices) a.front.now l.i one c.loop-i-test.true c.index-front-i.is h)
    (l.invariant.placed h g)
    (front_one a.path.now one (drop (l.i + 1) a.front.now) l.sorted (front_next a.path.now a.front.now l.i one l.sorted c.loop-i-test.true c.index-front-i.is (l.invariant.differ differ))))

pub list_one-returns-in_err-part-in-Set-clause-crowded : goal.list_one-returns-in_err-part-in-Set-clause-crowded
list_one-returns-in_err-part-in-Set-clause-crowded t c = λ total left left_then steps own on so_far before both differ.
    let a = c.args in
    let upon = c.in_err-part-in-Set.ensures.upon in
    part_refused (exploration_shape a.exploration.now) a.turns (exploration_state a.exploration.now) (here_on a.exploration.now a.frame.now (at a.path.now a.number) (rule_of a.rule.now))
    (made_on a.exploration.now a.frame.now (at a.path.now a.number) (rule_of a.rule.now)) total left left_then steps a.one.now c.in-Set.so_far c.in-Set.is upon.state upon.fired own on
    a.exploration.now.limit a.path.now a.number before c.from_residual.result c.in_err-part-in-Set.field-0.0 c.from_residual.ensures.1 upon.refuses

pub list_one-returns-in_err-add_part_of_sequence-in-Set-clause-crowded : goal.list_one-returns-in_err-add_part_of_sequence-in-Set-clause-crowded
list_one-returns-in_err-add_part_of_sequence-in-Set-clause-crowded t c = λ total left left_then steps own on so_far before both differ.
    let a = c.args in
    let upon = c.in_ok-part-in-Set.ensures.upon in
    refuses_on a.exploration.now.limit (λ q. IsWay a.path.now total) c.from_residual-in_err-add_part_of_sequence-in-Set.result c.in_err-add_part_of_sequence-in-Set.field-0.0 c.from_residual-in_err-add_part_of_sequence-in-Set.ensures.1
    (sorted_refused (exploration_shape a.exploration.now) a.turns (exploration_state a.exploration.now) (here_on a.exploration.now a.frame.now (at a.path.now a.number) (rule_of a.rule.now))
    (made_on a.exploration.now a.frame.now (at a.path.now a.number) (rule_of a.rule.now)) total left left_then steps a.one.now c.in-Set.so_far c.in-Set.is upon.state upon.fired own on
    a.exploration.now.limit a.path.now a.number before c.in_ok-part-in-Set.part.items a.sorted.now differ c.in_ok-part-in-Set.ensures.differ c.in_ok-part-in-Set.ensures.placed upon.made both
    so_far.done_made so_far.front_made
    c.in_err-add_part_of_sequence-in-Set.field-0.0 c.in_err-add_part_of_sequence-in-Set.ensures.names c.in_err-add_part_of_sequence-in-Set.ensures.crowd)
