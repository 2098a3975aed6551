mod Refusals
use Rattle.std.proofs.Common.{◌≡◌, ◌<◌, ◌≤◌, [], ◌++◌, drop, ◌-◌, ◌+◌, suc, true, false, cond, Some, rules, sym, ap, subst, ◌∙◌, arith, length, map, refl}
use Rattle.std.specs.Prelude.{option_map, IfErr, Ok}
use Rattle.asm_state.specs.Signature.{count_of}
use Rattle.asm_state.specs.Words.{value_of_code}
use Rattle.asm_meaning.specs.Does.{nothing}
use Rattle.asm_eval.specs.code.ShownViews.{shown}
use Rattle.asm_meaning.specs.Yields.{at, beside}
use Rattle.asm_code.specs.code.CodeViews.{code_of}
use Rattle.asm_code.specs.code.Readings.{universe_at}
use Rattle.asm_code.specs.code.RuleMeaning.{meaning}
use Rattle.asm_code.specs.code.RuleTree as tree
use Rattle.asm_code.specs.code.RuleViews.{target_code_of, rule_of, rules_of}
use Rattle.asm_eval.specs.code.Frames.{readings_of}
use Rattle.asm_eval.specs.code.Evaluation.{frame_locations}
use Rattle.asm_explore.specs.code.ExploredRules.{exploration_shape, exploration_state, yields_on, here_on, in_order_on, made_on, makes_on, order_made_on}
use Rattle.asm_explore.specs.code.OutcomeLists.{picked, HaveChoices, Lists, AreCounted, IsCounted}
use Rattle.asm_explore.specs.code.ChoicesMade.{made, AreMade, IsWay}
use Rattle.asm_explore.specs.code.ChoicesMadeSoFar.{MadeSoFar, MakesOfAll, MakesTo}
use Rattle.asm_explore.specs.code.ChoicePaths.{LieBelow, IsPlacedFrom, IsPlacedBefore}
use Rattle.asm_explore.specs.code.OverLimit.{AreDifferent, TakesBefore, Refuses}
use Rattle.asm_explore.specs.code.ChoiceLists.{choice_lists}
use Rattle.asm_explore.proofs.OutcomeLemmas.OverLimit.{refuses_on, one_differs, joined_differs, picked_differs, picked_takes, sorted_differs, front_begin, front_next, front_end, begun_differs, done_differs, closed_differs}
use Rattle.asm_explore.specs.code.Sequences.{BothHave, HasSet, Underway, Next, StepsTo}
use Rattle.asm_explore.proofs.ChoiceLemmas.ChoicesCarried.{have_added}
use Rattle.asm_explore.proofs.CodeLists.{sound_part, size_of_part, universe_here}
use Rattle.asm_explore.proofs.CodeRules.{par_tree, seq_tree, if_tree, let_tree, forall_tree, choose_tree, iterate_tree, call_tree}
use Rattle.asm_explore.proofs.OutcomeLemmas.ListLemmas.{lists_same, each_at}
use Rattle.asm_explore.proofs.ChoiceLemmas.MadeChoices.{none_made, have_made, joined_made, picked_made}
use Rattle.asm_explore.proofs.ChoiceLemmas.MadeInOrder.{begun_made, next_made_none, one_made}
use Rattle.asm_explore.proofs.ChoiceLemmas.ChoicesMade as makings
use Rattle.asm_explore.proofs.ChoiceLemmas.ChoicePaths.{placed_none, placed_in, from_none, from_later, before_later, have_weaker}
use Rattle.asm_explore.proofs.OutcomeLemmas.SequenceOutcomes.{both_begin, both_placed, begun, ended, underway_next, next_none, next_more, next_all, next_one}
use Rattle.asm_explore.proofs.OutcomeLemmas.RuleOutcomes.{no_elements, parts_left, each_left, order_left, turns_left, part_next, part_last, element_next, element_last, is_passing, value_yields, forall_yields, choosing_none, choosing_more, choosing_all, none_yields, skip_yields, assign_is, par_yields, seq_yields, if_yes, if_no, let_with, call_with, iterate_yields, order_steps, order_ends, turn_steps}
use Rattle.asm_explore.specs.code.ListedRules.{ListsOutcomes}
use Rattle.asm_explore.proofs.OutcomeLemmas.ListedRules.{listed_tree, listed_same, listed_part}
use Rattle.asm_explore.proofs.outcomes.list_outcomes.+list.Goals as goal
use Rattle.asm_explore.proofs.outcomes.list_outcomes.+list.Answers.Refusals as refusals

-- ---- each kind of rule

pub outcomes-returns-in_ok-found-in-Skip : goal.outcomes-returns-in_ok-found-in-Skip
outcomes-returns-in_ok-found-in-Skip t c =
    let a = c.args in
    let m = makes_on a.exploration.now a.frame.now a.path.now (rule_of a.rule.now) in
    record {
      lists = lists_same (exploration_shape a.exploration.now) (λ s. nothing.result) (yields_on a.exploration.now a.frame.now a.path.now (rule_of a.rule.now)) c.in_ok-found-in-Skip.found.items
          (skip_yields a.exploration.now a.frame.now a.path.now a.rule.now c.in-Skip.is) c.in_ok-found-in-Skip.ensures.lists;
      placed = have_weaker (λ cs. cs ≡ []) (LieBelow c.args.path.now) (placed_none c.args.path.now) c.in_ok-found-in-Skip.found.items c.in_ok-found-in-Skip.ensures.choices;
      differ = one_differs c.args.path.now c.in_ok-found-in-Skip.found.items (omega (arith, c.in_ok-found-in-Skip.ensures.one));
      made = none_made m c.in_ok-found-in-Skip.found.items c.in_ok-found-in-Skip.ensures.choices;
      crowded = tt;
    }

pub outcomes-returns-in_ok-found-in-Assign : goal.outcomes-returns-in_ok-found-in-Assign
outcomes-returns-in_ok-found-in-Assign t c =
    let a = c.args in
    let m = makes_on a.exploration.now a.frame.now a.path.now (rule_of a.rule.now) in
    record {
      lists = lists_same (exploration_shape a.exploration.now) (yields_on a.exploration.now a.frame.now a.path.now (tree.Assign (target_code_of c.in-Assign.place) (code_of c.in-Assign.value))) (yields_on a.exploration.now a.frame.now a.path.now (rule_of a.rule.now)) c.in_ok-found-in-Assign.found.items
          (assign_is a.exploration.now a.frame.now a.path.now a.rule.now c.in-Assign.place c.in-Assign.value c.in-Assign.is) c.in_ok-found-in-Assign.ensures.lists;
      placed = have_weaker (λ cs. cs ≡ []) (LieBelow c.args.path.now) (placed_none c.args.path.now) c.in_ok-found-in-Assign.found.items c.in_ok-found-in-Assign.ensures.choices;
      differ = one_differs c.args.path.now c.in_ok-found-in-Assign.found.items (omega (arith, c.in_ok-found-in-Assign.ensures.one));
      made = none_made m c.in_ok-found-in-Assign.found.items c.in_ok-found-in-Assign.ensures.choices;
      crowded = tt;
    }

pub outcomes-returns-in-Par : goal.outcomes-returns-in-Par
outcomes-returns-in-Par t c =
    let a = c.args in
    listed_same a.exploration.now a.path.now _ _ _ _ c.list_all.result
    (par_yields a.exploration.now a.frame.now a.path.now a.rule.now c.in-Par.parts c.in-Par.is c.as_slice.result.now c.as_slice.ensures.value)
    (λ s. makings.par_makes a.exploration.now a.frame.now a.path.now c.as_slice.result.now s ∙ ap (λ T. makes_on a.exploration.now a.frame.now a.path.now T s) (par_tree a.rule.now c.in-Par.parts c.in-Par.is c.as_slice.result.now c.as_slice.ensures.value))
    c.list_all.ensures

pub outcomes-returns-in-Seq : goal.outcomes-returns-in-Seq
outcomes-returns-in-Seq t c =
    let a = c.args in
    listed_same a.exploration.now a.path.now _ _ _ _ c.list_in_order.result
    (seq_yields a.exploration.now a.frame.now a.path.now a.rule.now c.in-Seq.parts c.in-Seq.is c.as_slice-in-Seq.result.now c.as_slice-in-Seq.ensures.value)
    (λ s. makings.seq_makes a.exploration.now a.frame.now a.path.now c.as_slice-in-Seq.result.now s ∙ ap (λ T. makes_on a.exploration.now a.frame.now a.path.now T s) (seq_tree a.rule.now c.in-Seq.parts c.in-Seq.is c.as_slice-in-Seq.result.now c.as_slice-in-Seq.ensures.value))
    c.list_in_order.ensures

pub outcomes-returns-in-If : goal.outcomes-returns-in-If
outcomes-returns-in-If t c =
    let a = c.args in
    listed_tree a.exploration.now a.path.now a.frame.now _ _ c.list_if.result
    (if_tree a.rule.now c.in-If.test c.in-If.yes c.in-If.no c.in-If.is c.in-If.test c.deref.result.now c.deref-in-If.result.now refl c.deref.ensures c.deref-in-If.ensures)
    c.list_if.ensures

pub outcomes-returns-in-Let : goal.outcomes-returns-in-Let
outcomes-returns-in-Let t c =
    let a = c.args in
    listed_tree a.exploration.now a.path.now a.frame.now _ _ c.list_let.result
    (let_tree a.rule.now c.in-Let.value c.in-Let.body c.in-Let.is c.in-Let.value c.deref-in-Let.result.now refl c.deref-in-Let.ensures)
    c.list_let.ensures

pub outcomes-returns-in-Forall : goal.outcomes-returns-in-Forall
outcomes-returns-in-Forall t c =
    let a = c.args in
    listed_tree a.exploration.now a.path.now a.frame.now _ _ c.list_each.result
    (forall_tree a.rule.now c.in-Forall.over c.in-Forall.test c.in-Forall.body c.in-Forall.is c.in-Forall.test c.deref-in-Forall.result.now refl c.deref-in-Forall.ensures)
    c.list_each.ensures

pub outcomes-returns-in-Choose : goal.outcomes-returns-in-Choose
outcomes-returns-in-Choose t c =
    let a = c.args in
    listed_tree a.exploration.now a.path.now a.frame.now _ _ c.list_choose.result
    (choose_tree a.rule.now c.in-Choose.over c.in-Choose.test c.in-Choose.body c.in-Choose.none c.in-Choose.is c.in-Choose.test c.deref-in-Choose.result.now c.deref-in-Choose-2.result.now refl c.deref-in-Choose.ensures c.deref-in-Choose-2.ensures)
    c.list_choose.ensures

pub outcomes-returns-in-Iterate : goal.outcomes-returns-in-Iterate
outcomes-returns-in-Iterate t c =
    let a = c.args in
    listed_tree a.exploration.now a.path.now a.frame.now _ _ c.list_turns.result
    (iterate_tree a.rule.now c.in-Iterate.body c.in-Iterate.is c.deref-in-Iterate.result.now c.deref-in-Iterate.ensures)
    c.list_turns.ensures

pub outcomes-returns-in-Call : goal.outcomes-returns-in-Call
outcomes-returns-in-Call t c =
    let a = c.args in
    listed_tree a.exploration.now a.path.now a.frame.now _ _ c.list_call.result
    (call_tree a.rule.now c.in-Call.body c.in-Call.answer c.in-Call.arguments c.in-Call.is c.deref-in-Call.result.now c.in-Call.answer c.as_slice-in-Call.result.now c.deref-in-Call.ensures refl c.as_slice-in-Call.ensures.value)
    c.list_call.ensures

pub outcomes-returns-then-is_formed_once : goal.outcomes-returns-then-is_formed_once
outcomes-returns-then-is_formed_once t c =
    let a = c.args in
    let m = makes_on a.exploration.now a.frame.now a.path.now (rule_of a.rule.now) in
    record {
      lists = c.in_ok-found.ensures.lists;
      placed = have_weaker (λ cs. cs ≡ []) (LieBelow c.args.path.now) (placed_none c.args.path.now) c.in_ok-found.found.items c.in_ok-found.ensures.choices;
      differ = one_differs c.args.path.now c.in_ok-found.found.items (omega (arith, c.in_ok-found.ensures.one));
      made = none_made m c.in_ok-found.found.items c.in_ok-found.ensures.choices;
      crowded = tt;
    }

pub list_part-returns : goal.list_part-returns
list_part-returns t c =
    let a = c.args in
    subst (λ q. ListsOutcomes a.exploration.now q (yields_on a.exploration.now a.frame.now q (rule_of a.rule.now)) (makes_on a.exploration.now a.frame.now q (rule_of a.rule.now)) (Ok c.in_ok-found.found))
    (c.as_slice.ensures ∙ c.in_ok-below.ensures) c.in_ok-found.ensures

pub list_part-returns-then-path-lt-MAX_SHORT_PATH : goal.list_part-returns-then-path-lt-MAX_SHORT_PATH
list_part-returns-then-path-lt-MAX_SHORT_PATH t c =
    let a = c.args in
    subst (λ q. ListsOutcomes a.exploration.now q (yields_on a.exploration.now a.frame.now q (rule_of a.rule.now)) (makes_on a.exploration.now a.frame.now q (rule_of a.rule.now)) c.outcomes.result) c.put_path.ensures c.outcomes.ensures

pub list_if-returns-then-holds : goal.list_if-returns-then-holds
list_if-returns-then-holds t c =
    let a = c.args in
    listed_part a.exploration.now a.path.now _ _ _ _ 0 c.list_part.result
    (if_yes a.exploration.now a.frame.now a.path.now a.test.now a.yes.now a.no.now (sym c.holds.ensures ∙ c.if-holds.true))
    (makings.if_yes a.exploration.now a.frame.now a.path.now a.test.now a.yes.now a.no.now (sym c.holds.ensures ∙ c.if-holds.true))
    c.list_part.ensures

pub list_if-returns-else-holds : goal.list_if-returns-else-holds
list_if-returns-else-holds t c =
    let a = c.args in
    listed_part a.exploration.now a.path.now _ _ _ _ 1 c.list_part-else-holds.result
    (if_no a.exploration.now a.frame.now a.path.now a.test.now a.yes.now a.no.now (sym c.holds.ensures ∙ c.if-holds.false))
    (makings.if_no a.exploration.now a.frame.now a.path.now a.test.now a.yes.now a.no.now (sym c.holds.ensures ∙ c.if-holds.false))
    c.list_part-else-holds.ensures

pub list_let-returns : goal.list_let-returns
list_let-returns t c =
    let a = c.args in
    listed_part a.exploration.now a.path.now _ _ _ _ 0 c.list_part.result
    (let_with a.exploration.now a.frame.now a.path.now a.term.now a.body.now (value_of_code c.unbranded_code.result.value) (c.unbranded_code.ensures ∙ c.value-value.ensures))
    (makings.let_makes a.exploration.now a.frame.now a.path.now a.term.now a.body.now (value_of_code c.unbranded_code.result.value) (c.unbranded_code.ensures ∙ c.value-value.ensures))
    c.list_part.ensures

-- ---- parts

pub list_all-loop-i-init : goal.list_all-loop-i-init
list_all-loop-i-init t c =
    let a = c.args in
    record {
      within = omega arith;
      lists = lists_same (exploration_shape a.exploration.now) (λ s. nothing.result) (parts_left a.exploration.now a.frame.now a.path.now a.parts.now (length a.parts.now)) c.in_ok-found.found.items
          (part_last a.exploration.now a.frame.now a.path.now a.parts.now (length a.parts.now) (omega arith)) c.in_ok-found.ensures.lists;
      placed = have_weaker (λ cs. cs ≡ []) (IsPlacedFrom a.path.now (length a.parts.now)) (from_none a.path.now (length a.parts.now)) c.in_ok-found.found.items c.in_ok-found.ensures.choices;
      differ = one_differs a.path.now c.in_ok-found.found.items (omega (arith, c.in_ok-found.ensures.one));
      made = none_made (makings.parts_left a.exploration.now a.frame.now a.path.now a.parts.now (length a.parts.now)) c.in_ok-found.found.items c.in_ok-found.ensures.choices;
    }

pub list_all-list_part-requires : goal.list_all-list_part-requires
list_all-list_part-requires t c =
    let a = c.args in
    let l = c.loop-i in
    let low : l.i - 1 < length a.parts.now = omega (arith, l.invariant.within, c.loop-i-test.true) in
    let less = size_of_part a.parts.now (l.i - 1) c.index-parts-i.result low c.index-parts-i.is in
    (omega (arith, c.decreases, less), (sound_part (exploration_shape a.exploration.now) a.parts.now (l.i - 1) c.index-parts-i.result low c.index-parts-i.is c.requires.sound, c.requires.framed))

pub list_all-loop-i-preserved : goal.list_all-loop-i-preserved
list_all-loop-i-preserved t c =
    let a = c.args in
    let l = c.loop-i in
    let low : l.i - 1 < length a.parts.now = omega (arith, l.invariant.within, c.loop-i-test.true) in
    let back : l.i ≡ l.i - 1 + 1 = omega (arith, c.loop-i-test.true) in
    let here = yields_on a.exploration.now a.frame.now (at a.path.now (l.i - 1)) (rule_of c.index-parts-i.result) in
    let makes = makes_on a.exploration.now a.frame.now (at a.path.now (l.i - 1)) (rule_of c.index-parts-i.result) in
    let left = makings.parts_left a.exploration.now a.frame.now a.path.now a.parts.now in
    record {
      within = omega (arith, l.invariant.within);
      lists = lists_same (exploration_shape a.exploration.now) (λ s. beside (here s) (parts_left a.exploration.now a.frame.now a.path.now a.parts.now l.i s))
          (parts_left a.exploration.now a.frame.now a.path.now a.parts.now (l.i - 1)) c.in_ok-more.more.items
          (λ s. ap (λ k. beside (here s) (parts_left a.exploration.now a.frame.now a.path.now a.parts.now k s)) back
          ∙ part_next a.exploration.now a.frame.now a.path.now a.parts.now (l.i - 1) c.index-parts-i.result low c.index-parts-i.is s)
          (c.in_ok-more.ensures.lists here (parts_left a.exploration.now a.frame.now a.path.now a.parts.now l.i) c.in_ok-part.ensures.lists l.invariant.lists);
      placed = c.in_ok-more.ensures.placed (l.i - 1) c.in_ok-part.ensures.placed
          (subst (λ k. HaveChoices (IsPlacedFrom a.path.now k) l.found.items) back l.invariant.placed);
      differ = joined_differs a.path.now (l.i - 1) c.in_ok-part.part.items l.found.items c.in_ok-more.more.items c.in_ok-part.ensures.differ l.invariant.differ c.in_ok-more.ensures.chosen;
      made = have_made (λ s. makes s ++ left l.i s) (left (l.i - 1)) (λ s. ap (λ k. makes s ++ left k s) back
          ∙ makings.parts_next a.exploration.now a.frame.now a.path.now a.parts.now (l.i - 1) c.index-parts-i.result low c.index-parts-i.is s)
          c.in_ok-more.more.items (joined_made makes (left l.i) c.in_ok-part.part.items l.found.items c.in_ok-more.more.items c.in_ok-more.ensures.chosen c.in_ok-part.ensures.made l.invariant.made);
    }

pub list_all-returns : goal.list_all-returns
list_all-returns t c =
    let a = c.args in
    let l = c.loop-i in
    let ends : l.i ≡ 0 = omega (arith, c.loop-i-test.false) in
    record {
      lists = subst (λ i. Lists (exploration_shape a.exploration.now) (parts_left a.exploration.now a.frame.now a.path.now a.parts.now i) l.found.items) ends l.invariant.lists;
      placed = have_weaker (IsPlacedFrom c.args.path.now l.i) (LieBelow c.args.path.now) (placed_in c.args.path.now (λ k. l.i ≤ k)) l.found.items l.invariant.placed;
      differ = l.invariant.differ;
      made = subst (λ i. HaveChoices (AreMade (makings.parts_left a.exploration.now a.frame.now a.path.now a.parts.now i)) l.found.items) ends l.invariant.made;
      crowded = tt;
    }

-- ---- values of a universe

pub list_each-loop-i-init : goal.list_each-loop-i-init
list_each-loop-i-init t c =
    let a = c.args in
    let us = c.universe-universe.result.now in
    record {
      within = omega (arith, c.size-i.ensures.size);
      lists = lists_same (exploration_shape a.exploration.now) (λ s. nothing.result) (each_left a.exploration.now a.frame.now a.path.now a.over a.test.now a.body.now (length us) us c.size-i.result) c.in_ok-found.found.items
          (element_last a.exploration.now a.frame.now a.path.now a.over a.test.now a.body.now (length us) us c.size-i.result (omega (arith, c.size-i.ensures.size))) c.in_ok-found.ensures.lists;
      placed = have_weaker (λ cs. cs ≡ []) (IsPlacedFrom a.path.now c.size-i.result) (from_none a.path.now c.size-i.result) c.in_ok-found.found.items c.in_ok-found.ensures.choices;
      differ = one_differs a.path.now c.in_ok-found.found.items (omega (arith, c.in_ok-found.ensures.one));
      made = none_made (makings.each_left a.exploration.now a.frame.now a.path.now a.over a.test.now a.body.now (length us) us c.size-i.result) c.in_ok-found.found.items c.in_ok-found.ensures.choices;
    }

pub list_each-list_element-requires : goal.list_each-list_element-requires
list_each-list_element-requires t c =
    (omega (arith, c.decreases), (c.requires.sound_test, (c.requires.sound, (c.requires.framed, c.loop-i.invariant.lists.counted))))

pub list_each-loop-i-preserved : goal.list_each-loop-i-preserved
list_each-loop-i-preserved t c =
    let a = c.args in
    let l = c.loop-i in
    let us = c.universe-universe.result.now in
    let v = value_of_code c.unbranded_code.result.value in
    let low : l.i - 1 < length us = omega (arith, l.invariant.within, c.loop-i-test.true) in
    let back : l.i ≡ l.i - 1 + 1 = omega (arith, c.loop-i-test.true) in
    let so = is_passing a.exploration.now a.frame.now a.path.now a.over a.test.now a.body.now v in
    let here = value_yields a.exploration.now a.frame.now a.path.now a.body.now v (l.i - 1) in
    let left = each_left a.exploration.now a.frame.now a.path.now a.over a.test.now a.body.now (length us) us in
    let makes = makings.value_makes a.exploration.now a.frame.now a.path.now a.body.now v (l.i - 1) in
    let more = makings.each_left a.exploration.now a.frame.now a.path.now a.over a.test.now a.body.now (length us) us in
    record {
      within = omega (arith, l.invariant.within);
      lists = lists_same (exploration_shape a.exploration.now) (λ s. cond so (beside (here s) (left l.i s)) (left l.i s)) (left (l.i - 1)) c.in_ok-more.more.items
          (λ s. ap (λ k. cond so (beside (here s) (left k s)) (left k s)) back
          ∙ element_next a.exploration.now a.frame.now a.path.now a.over a.test.now a.body.now (length us) us (l.i - 1) v low (c.element.ensures ∙ ap Some (sym c.unbranded_code.ensures)) s so refl)
          (c.in_ok-more.ensures.lists (left l.i) l.invariant.lists);
      placed = c.in_ok-more.ensures.placed (subst (λ k. HaveChoices (IsPlacedFrom a.path.now k) l.found.items) back l.invariant.placed);
      differ = c.in_ok-more.ensures.differ l.invariant.differ;
      made = have_made (λ s. cond so (makes s ++ more l.i s) (more l.i s)) (more (l.i - 1)) (λ s. ap (λ k. cond so (makes s ++ more k s) (more k s)) back
          ∙ makings.elements_next a.exploration.now a.frame.now a.path.now a.over a.test.now a.body.now (length us) us (l.i - 1) v low (c.element.ensures ∙ ap Some (sym c.unbranded_code.ensures)) s so refl)
          c.in_ok-more.more.items (c.in_ok-more.ensures.made (more l.i) l.invariant.made);
    }

pub list_each-returns : goal.list_each-returns
list_each-returns t c =
    let a = c.args in
    let l = c.loop-i in
    let us = c.universe-universe.result.now in
    let ends : l.i ≡ 0 = omega (arith, c.loop-i-test.false) in
    let same : universe_at (exploration_shape a.exploration.now) a.over ≡ us = universe_here (exploration_shape a.exploration.now).universes a.over us c.universe-universe.ensures in
    let left = each_left a.exploration.now a.frame.now a.path.now a.over a.test.now a.body.now (length us) in
    record {
      lists = lists_same (exploration_shape a.exploration.now) (left us 0) (yields_on a.exploration.now a.frame.now a.path.now (tree.Forall a.over (option_map code_of a.test.now) (rule_of a.body.now))) l.found.items
          (λ s. ap (λ ws. left ws 0 s) (sym same) ∙ forall_yields a.exploration.now a.frame.now a.path.now a.over a.test.now a.body.now (length us) (ap length (sym same)) s)
          (subst (λ i. Lists (exploration_shape a.exploration.now) (left us i) l.found.items) ends l.invariant.lists);
      placed = have_weaker (IsPlacedFrom c.args.path.now l.i) (LieBelow c.args.path.now) (placed_in c.args.path.now (λ k. l.i ≤ k)) l.found.items l.invariant.placed;
      differ = l.invariant.differ;
      made =
          let left = makings.each_left a.exploration.now a.frame.now a.path.now a.over a.test.now a.body.now (length us) in
          have_made (left us 0) (makes_on a.exploration.now a.frame.now a.path.now (tree.Forall a.over (option_map code_of a.test.now) (rule_of a.body.now)))
          (λ s. ap (λ ws. left ws 0 s) (sym same) ∙ makings.forall_makes a.exploration.now a.frame.now a.path.now a.over a.test.now a.body.now (length us) (ap length (sym same)) s)
          l.found.items (subst (λ i. HaveChoices (AreMade (left us i)) l.found.items) ends l.invariant.made);
      crowded = tt;
    }

pub list_element-returns-in_ok-found-clause-lists : goal.list_element-returns-in_ok-found-clause-lists
list_element-returns-in_ok-found-clause-lists t c = λ o lists.
    let a = c.args in
    let here = yields_on a.exploration.now a.frame.now (at a.path.now a.number) (rule_of a.body.now) in
    lists_same (exploration_shape a.exploration.now) (λ s. beside (here s) (o s)) _ c.in_ok-found.found.items
    (λ s. ap (λ b. cond b (beside (here s) (o s)) (o s)) (sym c.if-passes.true ∙ c.passes.ensures))
    (c.in_ok-found.ensures.lists here o c.in_ok-part.ensures.lists lists)

pub list_element-returns-in_ok-found-clause-placed : goal.list_element-returns-in_ok-found-clause-placed
list_element-returns-in_ok-found-clause-placed t c = λ later. c.in_ok-found.ensures.placed c.args.number c.in_ok-part.ensures.placed later

pub list_element-returns-in_ok-found-clause-made : goal.list_element-returns-in_ok-found-clause-made
list_element-returns-in_ok-found-clause-made t c = λ m after.
    let a = c.args in
    let makes = makes_on a.exploration.now a.frame.now (at a.path.now a.number) (rule_of a.body.now) in
    have_made (λ s. makes s ++ m s) _ (λ s. ap (λ b. cond b (makes s ++ m s) (m s)) (sym c.if-passes.true ∙ c.passes.ensures)) c.in_ok-found.found.items
    (joined_made makes m c.in_ok-part.part.items a.after.items c.in_ok-found.found.items c.in_ok-found.ensures.chosen c.in_ok-part.ensures.made after)

pub list_element-returns-else-passes-clause-lists : goal.list_element-returns-else-passes-clause-lists
list_element-returns-else-passes-clause-lists t c = λ o lists.
    let a = c.args in
    let here = yields_on a.exploration.now a.frame.now (at a.path.now a.number) (rule_of a.body.now) in
    lists_same (exploration_shape a.exploration.now) o _ a.after.items
    (λ s. ap (λ b. cond b (beside (here s) (o s)) (o s)) (sym c.if-passes.false ∙ c.passes.ensures))
    lists

pub list_element-returns-else-passes-clause-placed : goal.list_element-returns-else-passes-clause-placed
list_element-returns-else-passes-clause-placed t c =
    let a = c.args in
    have_weaker (IsPlacedFrom a.path.now (a.number + 1)) (IsPlacedFrom a.path.now a.number) (from_later a.path.now a.number) a.after.items

pub list_element-returns-else-passes-clause-made : goal.list_element-returns-else-passes-clause-made
list_element-returns-else-passes-clause-made t c = λ m after.
    let a = c.args in
    let makes = makes_on a.exploration.now a.frame.now (at a.path.now a.number) (rule_of a.body.now) in
    have_made m _ (λ s. ap (λ b. cond b (makes s ++ m s) (m s)) (sym c.if-passes.false ∙ c.passes.ensures)) a.after.items after

-- ---- candidates

pub list_choose-returns-then-all-eq0 : goal.list_choose-returns-then-all-eq0
list_choose-returns-then-all-eq0 t c =
    let a = c.args in
    listed_part a.exploration.now a.path.now _ _ _ _ 1 c.list_part.result
    (none_yields a.exploration.now a.frame.now a.path.now a.over a.test.now a.body.now a.none.now c.as_slice-all.result.now (c.as_slice-all.ensures.value ∙ c.in_ok-values.ensures)
    (no_elements c.as_slice-all.result.now c.if-all-eq0.true))
    (makings.none_makes a.exploration.now a.frame.now a.path.now a.over a.test.now a.body.now a.none.now c.as_slice-all.result.now (c.as_slice-all.ensures.value ∙ c.in_ok-values.ensures)
    (no_elements c.as_slice-all.result.now c.if-all-eq0.true))
    c.list_part.ensures

pub list_choose-loop-k-init : goal.list_choose-loop-k-init
list_choose-loop-k-init t c =
    let a = c.args in
    record {
      choosing = choosing_none a.exploration.now a.frame.now a.path.now a.over a.test.now a.body.now a.none.now c.as_slice-all.result.now c.new-found.result.items c.new-found.ensures.items;
      placed = subst (HaveChoices (LieBelow a.path.now)) (sym c.new-found.ensures.items) tt;
      differ = subst (λ fs. AreDifferent a.path.now (choice_lists fs)) (sym c.new-found.ensures.items) tt;
      takes = subst (HaveChoices (TakesBefore a.path.now 0)) (sym c.new-found.ensures.items) tt;
      made = subst (HaveChoices (AreMade (makings.choose_makes a.exploration.now a.frame.now a.path.now a.over a.test.now a.body.now a.none.now))) (sym c.new-found.ensures.items) tt;
    }

pub list_choose-loop-k-preserved : goal.list_choose-loop-k-preserved
list_choose-loop-k-preserved t c =
    let a = c.args in
    let l = c.loop-k in
    record {
      choosing = choosing_more a.exploration.now a.frame.now a.path.now a.over a.test.now a.body.now a.none.now c.as_slice-all.result.now (c.as_slice-all.ensures.value ∙ c.in_ok-values.ensures)
          l.k (value_of_code c.unbranded_code.result.value) (c.candidate_at-value.ensures ∙ ap Some (sym c.unbranded_code.ensures)) c.in_ok-part.part.items l.found.items c.add_part.new.found.items
          c.in_ok-part.ensures.lists c.in_ok-add_part.ensures.picks l.invariant.choosing;
      placed = c.in_ok-add_part.ensures.picks.placed c.in_ok-part.ensures.placed l.invariant.placed;
      differ = picked_differs a.path.now l.k c.in_ok-part.part.items l.found.items c.add_part.new.found.items c.in_ok-add_part.ensures.picks.chosen l.invariant.takes
          l.invariant.differ c.in_ok-part.ensures.differ;
      takes = picked_takes a.path.now l.k c.in_ok-part.part.items l.found.items c.add_part.new.found.items c.in_ok-add_part.ensures.picks.chosen l.invariant.takes;
      made = picked_made (makings.value_makes a.exploration.now a.frame.now a.path.now a.body.now (value_of_code c.unbranded_code.result.value) 0)
          (makings.choose_makes a.exploration.now a.frame.now a.path.now a.over a.test.now a.body.now a.none.now) a.path.now l.k
          (makings.taken_makes a.exploration.now a.frame.now a.path.now a.over a.test.now a.body.now a.none.now c.as_slice-all.result.now (c.as_slice-all.ensures.value ∙ c.in_ok-values.ensures)
          l.k (value_of_code c.unbranded_code.result.value) (c.candidate_at-value.ensures ∙ ap Some (sym c.unbranded_code.ensures)))
          c.in_ok-part.part.items l.found.items c.add_part.new.found.items c.in_ok-add_part.ensures.picks.chosen c.in_ok-part.ensures.made l.invariant.made;
    }

pub list_choose-returns : goal.list_choose-returns
list_choose-returns t c =
    let a = c.args in
    let l = c.loop-k in
    let some : 0 < length c.as_slice-all.result.now = omega (arith, c.if-all-eq0.false) in
    record {
      lists = choosing_all a.exploration.now a.frame.now a.path.now a.over a.test.now a.body.now a.none.now c.as_slice-all.result.now (c.as_slice-all.ensures.value ∙ c.in_ok-values.ensures)
          some l.k l.found.items (omega arith) l.invariant.choosing;
      placed = l.invariant.placed;
      differ = l.invariant.differ;
      made = l.invariant.made;
      crowded = tt;
    }

-- ---- calls

pub list_call-returns : goal.list_call-returns
list_call-returns t c =
    let a = c.args in
    listed_part a.exploration.now a.path.now _ _ _ _ 0 c.list_part.result
    (call_with a.exploration.now a.frame.now a.path.now a.body.now a.answer.now a.arguments.now c.in_ok-answer.answer c.in_ok-answer.ensures.location)
    (makings.call_makes a.exploration.now a.frame.now a.path.now a.body.now a.answer.now a.arguments.now c.in_ok-answer.answer c.in_ok-answer.ensures.location)
    c.list_part.ensures

-- ---- one after the other

pub list_in_order-loop-i-init : goal.list_in_order-loop-i-init
list_in_order-loop-i-init t c =
    let a = c.args in
    let total = in_order_on a.exploration.now a.frame.now a.path.now (rules_of (map rule_of a.parts.now)) in
    let left = order_left a.exploration.now a.frame.now a.path.now a.parts.now 0 in
    record {
      underway = subst (λ d. Underway (exploration_shape a.exploration.now) (exploration_state a.exploration.now) total left d c.in_ok-begin.begin.items) (sym c.new.ensures.items)
          (begun (exploration_shape a.exploration.now) (exploration_state a.exploration.now) total left (λ s. refl) c.in_ok-begin.begin.items c.in_ok-begin.ensures.lists);
      placed = both_begin a.path.now c.new.result.items c.in_ok-begin.begin.items c.new.ensures.items c.in_ok-begin.ensures.choices;
      differ = begun_differs a.path.now (record { done = c.new.result; more = c.in_ok-begin.begin }) c.new.ensures.items (omega (arith, c.in_ok-begin.ensures.one));
      made = begun_made (exploration_shape a.exploration.now) (exploration_state a.exploration.now) (order_made_on a.exploration.now a.frame.now a.path.now (rules_of (map rule_of a.parts.now)))
          (makings.order_left a.exploration.now a.frame.now a.path.now a.parts.now 0) (λ s. refl) c.new.result.items c.in_ok-begin.begin.items c.new.ensures.items c.in_ok-begin.ensures.choices c.in_ok-begin.ensures.lists;
    }

pub list_in_order-list_next-requires : goal.list_in_order-list_next-requires
list_in_order-list_next-requires t c =
    let a = c.args in
    let l = c.loop-i in
    let less = size_of_part a.parts.now l.i c.index-parts-i.result c.loop-i-test.true c.index-parts-i.is in (
      omega (arith, c.decreases, less),
      (
        sound_part (exploration_shape a.exploration.now) a.parts.now l.i c.index-parts-i.result c.loop-i-test.true c.index-parts-i.is c.requires.sound,
        (c.requires.framed, subst (AreCounted (count_of (exploration_shape a.exploration.now))) (sym c.as_slice-front.ensures.value) l.invariant.underway.front_counted),
      ),
    )

pub list_in_order-loop-i-preserved : goal.list_in_order-loop-i-preserved
list_in_order-loop-i-preserved t c =
    let a = c.args in
    let l = c.loop-i in
    let here = here_on a.exploration.now a.frame.now (at a.path.now l.i) (rule_of c.index-parts-i.result) in
    record {
      underway = underway_next (exploration_shape a.exploration.now) false (exploration_state a.exploration.now) here (in_order_on a.exploration.now a.frame.now a.path.now (rules_of (map rule_of a.parts.now)))
          (order_left a.exploration.now a.frame.now a.path.now a.parts.now l.i) (order_left a.exploration.now a.frame.now a.path.now a.parts.now (l.i + 1))
          (order_steps a.exploration.now a.frame.now a.path.now a.parts.now l.i c.index-parts-i.result c.loop-i-test.true c.index-parts-i.is)
          l.sorted c.in_ok-next.next
          (subst (λ fs. Next (exploration_shape a.exploration.now) false (exploration_state a.exploration.now) here fs l.sorted.done.items c.in_ok-next.next) c.as_slice-front.ensures.value c.in_ok-next.ensures.next)
          l.invariant.underway;
      placed = c.in_ok-next.ensures.placed (subst (HaveChoices (IsPlacedBefore a.path.now l.i)) (sym c.as_slice-front.ensures.value) l.invariant.placed.1) l.invariant.placed.0;
      differ = c.in_ok-next.ensures.differ (subst (λ fs. AreDifferent a.path.now (choice_lists l.sorted.done.items ++ choice_lists fs)) (sym c.as_slice-front.ensures.value) l.invariant.differ);
      made = c.in_ok-next.ensures.made (order_made_on a.exploration.now a.frame.now a.path.now (rules_of (map rule_of a.parts.now)))
          (makings.order_left a.exploration.now a.frame.now a.path.now a.parts.now l.i) (makings.order_left a.exploration.now a.frame.now a.path.now a.parts.now (l.i + 1))
          (makings.order_steps a.exploration.now a.frame.now a.path.now a.parts.now l.i c.index-parts-i.result c.loop-i-test.true c.index-parts-i.is)
          (subst (MadeSoFar (exploration_shape a.exploration.now) (exploration_state a.exploration.now) (order_made_on a.exploration.now a.frame.now a.path.now (rules_of (map rule_of a.parts.now)))
          (makings.order_left a.exploration.now a.frame.now a.path.now a.parts.now l.i) l.sorted.done.items) (sym c.as_slice-front.ensures.value) l.invariant.made);
    }

pub list_in_order-returns : goal.list_in_order-returns
list_in_order-returns t c =
    let a = c.args in
    let l = c.loop-i in
    record {
      lists = c.in_ok-found.ensures.lists (exploration_shape a.exploration.now) (exploration_state a.exploration.now) (in_order_on a.exploration.now a.frame.now a.path.now (rules_of (map rule_of a.parts.now))) (order_left a.exploration.now a.frame.now a.path.now a.parts.now l.i)
          (order_ends a.exploration.now a.frame.now a.path.now a.parts.now l.i (omega arith)) l.invariant.underway;
      placed = c.in_ok-found.ensures.placed (both_placed c.args.path.now c.loop-i.i c.loop-i.sorted c.loop-i.invariant.placed);
      differ = closed_differs c.args.path.now c.loop-i.sorted c.in_ok-found.found.items c.loop-i.invariant.differ c.in_ok-found.ensures.chosen;
      made = have_added (AreMade (order_made_on a.exploration.now a.frame.now a.path.now (rules_of (map rule_of a.parts.now)))) l.sorted c.in_ok-found.found.items
          c.in_ok-found.ensures.chosen (l.invariant.made.done_made, l.invariant.made.front_made);
      crowded = tt;
    }

pub list_turns-loop-turn-init : goal.list_turns-loop-turn-init
list_turns-loop-turn-init t c =
    let a = c.args in
    let R = rule_of a.body.now in
    let total = yields_on a.exploration.now a.frame.now a.path.now (tree.Iterate R) in
    let left = turns_left a.exploration.now a.frame.now a.path.now R (a.exploration.now.turns - 0) 0 in
    let all : a.exploration.now.turns ≡ a.exploration.now.turns - 0 = omega arith in
    record {
      underway = subst (λ d. Underway (exploration_shape a.exploration.now) (exploration_state a.exploration.now) total left d c.in_ok-begin.begin.items) (sym c.new.ensures.items)
          (begun (exploration_shape a.exploration.now) (exploration_state a.exploration.now) total left
          (λ s. sym (iterate_yields a.exploration.now a.frame.now a.path.now R s) ∙ ap (λ n. turns_left a.exploration.now a.frame.now a.path.now R n 0 s (exploration_state a.exploration.now)) all)
          c.in_ok-begin.begin.items c.in_ok-begin.ensures.lists);
      placed = both_begin a.path.now c.new.result.items c.in_ok-begin.begin.items c.new.ensures.items c.in_ok-begin.ensures.choices;
      differ = begun_differs a.path.now (record { done = c.new.result; more = c.in_ok-begin.begin }) c.new.ensures.items (omega (arith, c.in_ok-begin.ensures.one));
      made = begun_made (exploration_shape a.exploration.now) (exploration_state a.exploration.now) (makes_on a.exploration.now a.frame.now a.path.now (tree.Iterate R))
          (makings.turns_left a.exploration.now a.frame.now a.path.now R (a.exploration.now.turns - 0) 0)
          (λ s. sym (ap (λ n. makings.turns_left a.exploration.now a.frame.now a.path.now R n 0 s (exploration_state a.exploration.now)) all) ∙ makings.iterate_makes a.exploration.now a.frame.now a.path.now R s)
          c.new.result.items c.in_ok-begin.begin.items c.new.ensures.items c.in_ok-begin.ensures.choices c.in_ok-begin.ensures.lists;
    }

pub list_turns-returns-then-waiting-eq0 : goal.list_turns-returns-then-waiting-eq0
list_turns-returns-then-waiting-eq0 t c =
    let a = c.args in
    let l = c.loop-turn in
    record {
      lists = ended (exploration_shape a.exploration.now) (exploration_state a.exploration.now) (yields_on a.exploration.now a.frame.now a.path.now (tree.Iterate (rule_of a.body.now)))
          (turns_left a.exploration.now a.frame.now a.path.now (rule_of a.body.now) (a.exploration.now.turns - l.turn) l.turn) l.sorted.done.items l.sorted.more.items
          (sym c.as_slice-waiting.ensures.value ∙ no_elements c.as_slice-waiting.result.now c.if-waiting-eq0.true) l.invariant.underway;
      placed = (both_placed c.args.path.now c.loop-turn.turn c.loop-turn.sorted c.loop-turn.invariant.placed).0;
      differ = done_differs c.args.path.now c.loop-turn.sorted c.loop-turn.invariant.differ;
      made = c.loop-turn.invariant.made.done_made;
      crowded = tt;
    }

pub list_turns-list_next-requires : goal.list_turns-list_next-requires
list_turns-list_next-requires t c =
    (omega (arith, c.decreases), (c.requires.sound, (c.requires.framed, subst (AreCounted (count_of (exploration_shape c.args.exploration.now))) (sym c.as_slice-front.ensures.value) c.loop-turn.invariant.underway.front_counted)))

pub list_turns-loop-turn-preserved : goal.list_turns-loop-turn-preserved
list_turns-loop-turn-preserved t c =
    let a = c.args in
    let l = c.loop-turn in
    let R = rule_of a.body.now in
    let here = here_on a.exploration.now a.frame.now (at a.path.now l.turn) R in
    let then = turns_left a.exploration.now a.frame.now a.path.now R (a.exploration.now.turns - (l.turn + 1)) (l.turn + 1) in
    let one : suc (a.exploration.now.turns - (l.turn + 1)) ≡ a.exploration.now.turns - l.turn = omega (arith, c.loop-turn-test.true) in
    let left = makings.turns_left a.exploration.now a.frame.now a.path.now R in
    record {
      underway = underway_next (exploration_shape a.exploration.now) true (exploration_state a.exploration.now) here (yields_on a.exploration.now a.frame.now a.path.now (tree.Iterate R))
          (turns_left a.exploration.now a.frame.now a.path.now R (a.exploration.now.turns - l.turn) l.turn) then
          (subst (λ n. StepsTo true (turns_left a.exploration.now a.frame.now a.path.now R n l.turn) here then) one (turn_steps a.exploration.now a.frame.now a.path.now R (a.exploration.now.turns - (l.turn + 1)) l.turn))
          l.sorted c.in_ok-next.next
          (subst (λ n. Next (exploration_shape a.exploration.now) true (exploration_state a.exploration.now) (here_on a.exploration.now a.frame.now (at a.path.now n) R) l.sorted.more.items l.sorted.done.items c.in_ok-next.next) c.from-number.ensures
          (subst (λ fs. Next (exploration_shape a.exploration.now) true (exploration_state a.exploration.now) (here_on a.exploration.now a.frame.now (at a.path.now c.from-number.result) R) fs l.sorted.done.items c.in_ok-next.next) c.as_slice-front.ensures.value c.in_ok-next.ensures.next))
          l.invariant.underway;
      placed = subst (λ n. BothHave (IsPlacedBefore a.path.now (n + 1)) c.in_ok-next.next) c.from-number.ensures
          (c.in_ok-next.ensures.placed
          (subst (λ n. HaveChoices (IsPlacedBefore a.path.now n) c.as_slice-front.result.now) (sym c.from-number.ensures)
          (subst (HaveChoices (IsPlacedBefore a.path.now l.turn)) (sym c.as_slice-front.ensures.value) l.invariant.placed.1))
          (subst (λ n. HaveChoices (IsPlacedBefore a.path.now n) l.sorted.done.items) (sym c.from-number.ensures) l.invariant.placed.0));
      differ = c.in_ok-next.ensures.differ (subst (λ fs. AreDifferent a.path.now (choice_lists l.sorted.done.items ++ choice_lists fs)) (sym c.as_slice-front.ensures.value) l.invariant.differ);
      made = c.in_ok-next.ensures.made (makes_on a.exploration.now a.frame.now a.path.now (tree.Iterate R)) (left (a.exploration.now.turns - l.turn) l.turn) (left (a.exploration.now.turns - (l.turn + 1)) (l.turn + 1))
          (subst (λ k. MakesTo true (here_on a.exploration.now a.frame.now (at a.path.now k) R) (made_on a.exploration.now a.frame.now (at a.path.now k) R) (left (a.exploration.now.turns - l.turn) l.turn) (left (a.exploration.now.turns - (l.turn + 1)) (l.turn + 1)))
          (sym c.from-number.ensures)
          (subst (λ n. MakesTo true here (made_on a.exploration.now a.frame.now (at a.path.now l.turn) R) (left n l.turn) (left (a.exploration.now.turns - (l.turn + 1)) (l.turn + 1))) one
          (makings.turn_steps a.exploration.now a.frame.now a.path.now R (a.exploration.now.turns - (l.turn + 1)) l.turn)))
          (subst (MadeSoFar (exploration_shape a.exploration.now) (exploration_state a.exploration.now) (makes_on a.exploration.now a.frame.now a.path.now (tree.Iterate R)) (left (a.exploration.now.turns - l.turn) l.turn) l.sorted.done.items)
          (sym c.as_slice-front.ensures.value) l.invariant.made);
    }

pub list_turns-returns : goal.list_turns-returns
list_turns-returns t c =
    let a = c.args in
    let l = c.loop-turn in
    let R = rule_of a.body.now in
    let past : a.exploration.now.turns - l.turn ≡ 0 = omega (arith, c.loop-turn-test.false) in
    record {
      lists = c.in_ok-found.ensures.lists (exploration_shape a.exploration.now) (exploration_state a.exploration.now) (yields_on a.exploration.now a.frame.now a.path.now (tree.Iterate R))
          (turns_left a.exploration.now a.frame.now a.path.now R (a.exploration.now.turns - l.turn) l.turn)
          (λ s B. ap (λ n. turns_left a.exploration.now a.frame.now a.path.now R n l.turn s B) past) l.invariant.underway;
      placed = c.in_ok-found.ensures.placed (both_placed c.args.path.now c.loop-turn.turn c.loop-turn.sorted c.loop-turn.invariant.placed);
      differ = closed_differs c.args.path.now c.loop-turn.sorted c.in_ok-found.found.items c.loop-turn.invariant.differ c.in_ok-found.ensures.chosen;
      made = have_added (AreMade (makes_on a.exploration.now a.frame.now a.path.now (tree.Iterate (rule_of a.body.now)))) l.sorted c.in_ok-found.found.items
          c.in_ok-found.ensures.chosen (l.invariant.made.done_made, l.invariant.made.front_made);
      crowded = tt;
    }

pub list_next-loop-i-init : goal.list_next-loop-i-init
list_next-loop-i-init t c =
    let a = c.args in
    record {
      next = next_none (exploration_shape a.exploration.now) a.turns (exploration_state a.exploration.now) (here_on a.exploration.now a.frame.now (at a.path.now a.number) (rule_of a.rule.now)) a.front.now a.done.items
          (record { done = a.done; more = c.new.result }) refl c.new.ensures.items;
      placed = λ h g. (
        have_weaker (IsPlacedBefore a.path.now a.number) (IsPlacedBefore a.path.now (a.number + 1)) (before_later a.path.now a.number) a.done.items g,
        subst (HaveChoices (IsPlacedBefore a.path.now (a.number + 1))) (sym c.new.ensures.items) tt,
      );
      differ = front_begin a.path.now a.done.items a.front.now (record { done = a.done; more = c.new.result }) refl c.new.ensures.items;
      made = λ total left left_then steps so_far. next_made_none (exploration_shape a.exploration.now) (exploration_state a.exploration.now) total left left_then a.done.items a.front.now c.new.result.items c.new.ensures.items so_far;
    }

pub list_next-list_one-requires : goal.list_next-list_one-requires
list_next-list_one-requires t c =
    let a = c.args in
    (omega (arith, c.decreases), (c.requires.sound, (c.requires.framed, each_at (λ f. IsCounted (count_of (exploration_shape a.exploration.now)) f.answer) a.front.now c.loop-i.i c.index-front-i.result c.loop-i-test.true c.index-front-i.is c.requires.counted)))

pub list_next-loop-i-preserved : goal.list_next-loop-i-preserved
list_next-loop-i-preserved t c =
    let a = c.args in
    let l = c.loop-i in
    record {
      next = next_more (exploration_shape a.exploration.now) a.turns (exploration_state a.exploration.now) (here_on a.exploration.now a.frame.now (at a.path.now a.number) (rule_of a.rule.now)) a.front.now l.i c.index-front-i.result a.done.items
          l.sorted c.list_one.new.sorted c.loop-i-test.true c.index-front-i.is c.in_ok-list_one.ensures.next l.invariant.next;
      placed = λ h g.
          c.in_ok-list_one.ensures.placed
          (each_at (λ f. IsPlacedBefore a.path.now a.number f.choices) a.front.now l.i c.index-front-i.result c.loop-i-test.true c.index-front-i.is h)
          (l.invariant.placed h g);
      differ = λ h. c.in_ok-list_one.ensures.differ (drop (l.i + 1) a.front.now)
          (front_next a.path.now a.front.now l.i c.index-front-i.result l.sorted c.loop-i-test.true c.index-front-i.is (l.invariant.differ h));
      made = λ total left left_then steps so_far.
          c.in_ok-list_one.ensures.made total left left_then steps
          (each_at (λ f. AreMade total f.choices) a.front.now l.i c.index-front-i.result c.loop-i-test.true c.index-front-i.is so_far.front_made)
          (each_at (HasSet (exploration_shape a.exploration.now) (MakesOfAll (exploration_state a.exploration.now) total left)) a.front.now l.i c.index-front-i.result c.loop-i-test.true c.index-front-i.is so_far.front_on)
          (l.invariant.made total left left_then steps so_far);
    }

pub list_next-returns-clause-next : goal.list_next-returns-clause-next
list_next-returns-clause-next t c =
    let a = c.args in
    let l = c.loop-i in
    next_all (exploration_shape a.exploration.now) a.turns (exploration_state a.exploration.now) (here_on a.exploration.now a.frame.now (at a.path.now a.number) (rule_of a.rule.now)) a.front.now l.i a.done.items l.sorted (omega arith) l.invariant.next

pub list_one-list_upon-requires : goal.list_one-list_upon-requires
list_one-list_upon-requires t c =
    (omega (arith, c.decreases), (c.requires.sound, (c.requires.framed, subst (IsCounted (count_of (exploration_shape c.args.exploration.now))) c.in-Set.is c.requires.counted)))

pub list_one-returns-in_ok-add_part_of_sequence-in-Set-clause-next : goal.list_one-returns-in_ok-add_part_of_sequence-in-Set-clause-next
list_one-returns-in_ok-add_part_of_sequence-in-Set-clause-next t c =
    let a = c.args in
    let upon = c.in_ok-part-in-Set.ensures.upon in
    next_one (exploration_shape a.exploration.now) a.turns (exploration_state a.exploration.now) (here_on a.exploration.now a.frame.now (at a.path.now a.number) (rule_of a.rule.now)) a.one.now c.in-Set.so_far c.in_ok-part-in-Set.part.items
    a.sorted.now c.add_part_of_sequence.new.sorted c.in-Set.is upon.state upon.fired upon.lists c.in_ok-add_part_of_sequence-in-Set.ensures.sorts

pub list_one-returns-in_ok-add_part_of_sequence-in-Set-clause-placed : goal.list_one-returns-in_ok-add_part_of_sequence-in-Set-clause-placed
list_one-returns-in_ok-add_part_of_sequence-in-Set-clause-placed t c = λ here both.
    c.in_ok-add_part_of_sequence-in-Set.ensures.sorts.placed c.args.path.now c.args.number here c.in_ok-part-in-Set.ensures.placed both

pub list_one-returns-in_ok-add_part_of_sequence-in-Set-clause-made : goal.list_one-returns-in_ok-add_part_of_sequence-in-Set-clause-made
list_one-returns-in_ok-add_part_of_sequence-in-Set-clause-made t c = λ total left left_then steps own on so_far.
    let a = c.args in
    let upon = c.in_ok-part-in-Set.ensures.upon in
    one_made (exploration_shape a.exploration.now) a.turns (exploration_state a.exploration.now) (here_on a.exploration.now a.frame.now (at a.path.now a.number) (rule_of a.rule.now))
    (made_on a.exploration.now a.frame.now (at a.path.now a.number) (rule_of a.rule.now)) total left left_then steps a.one.now c.in-Set.so_far c.in-Set.is upon.state upon.fired own on
    c.in_ok-part-in-Set.part.items a.sorted.now c.add_part_of_sequence.new.sorted upon.made upon.lists c.in_ok-add_part_of_sequence-in-Set.ensures.sorts so_far

pub list_upon-returns-in_err-found-clause-upon : goal.list_upon-returns-in_err-found-clause-upon
list_upon-returns-in_err-found-clause-upon t c =
    let a = c.args in
    let v = c.upon-view.result in
    let p = at a.path.now a.number in
    record {
      state = shown v;
      fired = λ U stands consistent. c.upon-view.ensures.fired U stands consistent;
      lists = search rules;
      made = search rules;
      refuses = subst (λ sh. IfErr c.from_residual.result (Refuses a.exploration.now.limit (λ q. IsWay p (λ s. made sh a.exploration.now.turns (picked s) (rule_of a.rule.now) (readings_of sh a.frame.now) (frame_locations sh a.frame.now) (shown v) p))))
          c.upon-view.ensures.signature
          (refuses_on a.exploration.now.limit (λ q. IsWay p (λ s. made v.signature.now a.exploration.now.turns (picked s) (rule_of a.rule.now) (readings_of v.signature.now a.frame.now) (frame_locations v.signature.now a.frame.now) (shown v) p))
          c.from_residual.result c.in_err-found.field-0.0 c.from_residual.ensures.1 c.in_err-found.ensures.crowded);
    }

pub list_upon-returns-clause-upon : goal.list_upon-returns-clause-upon
list_upon-returns-clause-upon t c =
    let a = c.args in
    let v = c.upon-view.result in
    record {
      state = shown v;
      fired = λ U stands consistent. c.upon-view.ensures.fired U stands consistent;
      lists = subst (λ sh. Lists sh (λ s. (meaning sh a.exploration.now.turns (picked s) (rule_of a.rule.now) (readings_of sh a.frame.now) (frame_locations sh a.frame.now) (shown v) (at a.path.now a.number)).result) c.in_ok-found.found.items)
          c.upon-view.ensures.signature c.in_ok-found.ensures.lists;
      made = subst (λ sh. HaveChoices (AreMade (λ s. made sh a.exploration.now.turns (picked s) (rule_of a.rule.now) (readings_of sh a.frame.now) (frame_locations sh a.frame.now) (shown v) (at a.path.now a.number))) c.in_ok-found.found.items)
          c.upon-view.ensures.signature c.in_ok-found.ensures.made;
      refuses = tt;
    }

-- ---- that the outcomes differ

pub list_element-returns-in_ok-found-clause-differ : goal.list_element-returns-in_ok-found-clause-differ
list_element-returns-in_ok-found-clause-differ t c = λ h.
    let a = c.args in
    joined_differs a.path.now a.number c.in_ok-part.part.items a.after.items c.in_ok-found.found.items c.in_ok-part.ensures.differ h c.in_ok-found.ensures.chosen

pub list_next-returns-clause-differ : goal.list_next-returns-clause-differ
list_next-returns-clause-differ t c = λ h.
    let a = c.args in
    let l = c.loop-i in
    front_end a.path.now a.front.now l.i l.sorted (omega arith) (l.invariant.differ h)

pub list_one-returns-in_ok-add_part_of_sequence-in-Set-clause-differ : goal.list_one-returns-in_ok-add_part_of_sequence-in-Set-clause-differ
list_one-returns-in_ok-add_part_of_sequence-in-Set-clause-differ t c = λ others h.
    let a = c.args in
    sorted_differs a.path.now a.number a.one.now others c.in_ok-part-in-Set.part.items a.sorted.now c.add_part_of_sequence.new.sorted h c.in_ok-part-in-Set.ensures.differ
    c.in_ok-add_part_of_sequence-in-Set.ensures.sorts.chosen

pub list_one-returns-in-Exhausted-clause-differ : goal.list_one-returns-in-Exhausted-clause-differ
list_one-returns-in-Exhausted-clause-differ t c = λ others h. h.1

-- ---- what a refusal says

pub list_part-returns-in_err-found : goal.list_part-returns-in_err-found
list_part-returns-in_err-found = refusals.list_part-returns-in_err-found

pub list_all-returns-in_err-part : goal.list_all-returns-in_err-part
list_all-returns-in_err-part = refusals.list_all-returns-in_err-part

pub list_all-returns-in_err-more : goal.list_all-returns-in_err-more
list_all-returns-in_err-more = refusals.list_all-returns-in_err-more

pub list_each-returns-in_err-more : goal.list_each-returns-in_err-more
list_each-returns-in_err-more = refusals.list_each-returns-in_err-more

pub list_element-returns-in_err-part-clause-crowded : goal.list_element-returns-in_err-part-clause-crowded
list_element-returns-in_err-part-clause-crowded = refusals.list_element-returns-in_err-part-clause-crowded

pub list_element-returns-in_err-found-clause-crowded : goal.list_element-returns-in_err-found-clause-crowded
list_element-returns-in_err-found-clause-crowded = refusals.list_element-returns-in_err-found-clause-crowded

pub list_choose-returns-in_err-part : goal.list_choose-returns-in_err-part
list_choose-returns-in_err-part = refusals.list_choose-returns-in_err-part

pub list_choose-returns-in_err-add_part : goal.list_choose-returns-in_err-add_part
list_choose-returns-in_err-add_part = refusals.list_choose-returns-in_err-add_part

pub list_in_order-returns-in_err-next : goal.list_in_order-returns-in_err-next
list_in_order-returns-in_err-next = refusals.list_in_order-returns-in_err-next

pub list_in_order-returns-in_err-found : goal.list_in_order-returns-in_err-found
list_in_order-returns-in_err-found = refusals.list_in_order-returns-in_err-found

pub list_turns-returns-in_err-next : goal.list_turns-returns-in_err-next
list_turns-returns-in_err-next = refusals.list_turns-returns-in_err-next

pub list_turns-returns-in_err-found : goal.list_turns-returns-in_err-found
list_turns-returns-in_err-found = refusals.list_turns-returns-in_err-found

pub list_next-returns-in_err-list_one-clause-crowded : goal.list_next-returns-in_err-list_one-clause-crowded
list_next-returns-in_err-list_one-clause-crowded = refusals.list_next-returns-in_err-list_one-clause-crowded

pub list_one-returns-in_err-part-in-Set-clause-crowded : goal.list_one-returns-in_err-part-in-Set-clause-crowded
list_one-returns-in_err-part-in-Set-clause-crowded = refusals.list_one-returns-in_err-part-in-Set-clause-crowded

pub list_one-returns-in_err-add_part_of_sequence-in-Set-clause-crowded : goal.list_one-returns-in_err-add_part_of_sequence-in-Set-clause-crowded
list_one-returns-in_err-add_part_of_sequence-in-Set-clause-crowded = refusals.list_one-returns-in_err-add_part_of_sequence-in-Set-clause-crowded
