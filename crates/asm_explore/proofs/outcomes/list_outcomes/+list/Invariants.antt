use Rattle.std.proofs.Common.{◌+◌, ◌*◌, ◌-◌, ◌≤◌, List, [], ◌++◌, length, map, take, drop}
use Rattle.asm_state.specs.Location.{State}
use Rattle.asm_meaning.specs.Yields.{at}
use Rattle.asm_code.specs.code.RuleMeaning.{rule_size, rule_sizes}
use Rattle.asm_code.specs.code.RuleTree as tree
use Rattle.asm_code.specs.code.RuleViews.{rule_of, rules_of}
use Rattle.asm_explore.specs.declared.outcomes.listed_outcome.Choice.{Choice}
use Rattle.asm_explore.specs.code.ExploredRules.{exploration_shape, exploration_state, yields_on, in_order_on, here_on, made_on, makes_on, order_made_on}
use Rattle.asm_explore.specs.code.OutcomeLists.{Situation, HaveChoices, Lists}
use Rattle.asm_explore.specs.code.ChoicesMade.{AreMade}
use Rattle.asm_explore.specs.code.ChoicesMadeSoFar.{MadeSoFar, MakesTo}
use Rattle.asm_explore.specs.code.ChoicePaths.{LieBelow, IsPlacedFrom, IsPlacedBefore}
use Rattle.asm_explore.specs.code.Sequences.{AllDiffer, BothHave, Underway, Next}
use Rattle.asm_explore.specs.code.OverLimit.{AreDifferent, TakesBefore}
use Rattle.asm_explore.specs.code.ChoiceLists.{choice_lists}
use Rattle.asm_explore.proofs.ChoiceLemmas.ChoicesMade as makings
use Rattle.asm_explore.proofs.OutcomeLemmas.RuleOutcomes.{parts_left, each_left, IsChoosing, order_left, turns_left}
use Rattle.asm_explore.proofs.outcomes.list_outcomes.+list.Given as goal

-- ---- that it ends: each goes by the rule that it lists

abbrev pub decreases-outcomes : goal.decreases-outcomes
decreases-outcomes l = 8 * rule_size (rule_of l.rule.now) + 1

abbrev pub decreases-list_part : goal.decreases-list_part
decreases-list_part l = 8 * rule_size (rule_of l.rule.now) + 2

abbrev pub decreases-list_if : goal.decreases-list_if
decreases-list_if l = 8 * (rule_size (rule_of l.yes.now) + rule_size (rule_of l.no.now)) + 7

abbrev pub decreases-list_let : goal.decreases-list_let
decreases-list_let l = 8 * rule_size (rule_of l.body.now) + 7

abbrev pub decreases-list_all : goal.decreases-list_all
decreases-list_all l = 8 * rule_sizes (rules_of (map rule_of l.parts.now)) + 7

abbrev pub decreases-list_each : goal.decreases-list_each
decreases-list_each l = 8 * rule_size (rule_of l.body.now) + 7

abbrev pub decreases-list_element : goal.decreases-list_element
decreases-list_element l = 8 * rule_size (rule_of l.body.now) + 3

abbrev pub decreases-list_choose : goal.decreases-list_choose
decreases-list_choose l = 8 * (rule_size (rule_of l.body.now) + rule_size (rule_of l.none.now)) + 7

abbrev pub decreases-list_call : goal.decreases-list_call
decreases-list_call l = 8 * rule_size (rule_of l.body.now) + 7

abbrev pub decreases-list_in_order : goal.decreases-list_in_order
decreases-list_in_order l = 8 * rule_sizes (rules_of (map rule_of l.parts.now)) + 7

abbrev pub decreases-list_turns : goal.decreases-list_turns
decreases-list_turns l = 8 * rule_size (rule_of l.body.now) + 7

abbrev pub decreases-list_next : goal.decreases-list_next
decreases-list_next l = 8 * rule_size (rule_of l.rule.now) + 6

abbrev pub decreases-list_one : goal.decreases-list_one
decreases-list_one l = 8 * rule_size (rule_of l.rule.now) + 5

abbrev pub decreases-list_upon : goal.decreases-list_upon
decreases-list_upon l = 8 * rule_size (rule_of l.rule.now) + 4

-- ---- the loops

-- what the last parts yield
abbrev pub invariant-list_all-loop-i : goal.invariant-list_all-loop-i
invariant-list_all-loop-i l = record {
  within : l.i ≤ length l.parts;
  lists : Lists (exploration_shape l.exploration) (parts_left l.exploration l.frame l.path l.parts l.i) l.found.items;
  placed : HaveChoices (IsPlacedFrom l.path l.i) l.found.items;
  differ : AreDifferent l.path (choice_lists l.found.items);
  made : HaveChoices (AreMade (makings.parts_left l.exploration l.frame l.path l.parts l.i)) l.found.items;
}

abbrev pub decreases-list_all-loop-i : goal.decreases-list_all-loop-i
decreases-list_all-loop-i l = l.i

-- what the body yields for the last values
abbrev pub invariant-list_each-loop-i : goal.invariant-list_each-loop-i
invariant-list_each-loop-i l = record {
  within : l.i ≤ length l.universe;
  lists : Lists (exploration_shape l.exploration) (each_left l.exploration l.frame l.path l.over l.test l.body (length l.universe) l.universe l.i) l.found.items;
  placed : HaveChoices (IsPlacedFrom l.path l.i) l.found.items;
  differ : AreDifferent l.path (choice_lists l.found.items);
  made : HaveChoices (AreMade (makings.each_left l.exploration l.frame l.path l.over l.test l.body (length l.universe) l.universe l.i)) l.found.items;
}

abbrev pub decreases-list_each-loop-i : goal.decreases-list_each-loop-i
decreases-list_each-loop-i l = l.i

-- what the body yields for the first candidates
abbrev pub invariant-list_choose-loop-k : goal.invariant-list_choose-loop-k
invariant-list_choose-loop-k l = record {
  choosing : IsChoosing l.exploration l.frame l.path l.over l.test l.body l.none l.all l.k l.found.items;
  placed : HaveChoices (LieBelow l.path) l.found.items;
  differ : AreDifferent l.path (choice_lists l.found.items);
  takes : HaveChoices (TakesBefore l.path l.k) l.found.items;
  made : HaveChoices (AreMade (makings.choose_makes l.exploration l.frame l.path l.over l.test l.body l.none)) l.found.items;
}

-- the outcomes so far of the parts, and of the turns
abbrev pub invariant-list_in_order-loop-i : goal.invariant-list_in_order-loop-i
invariant-list_in_order-loop-i l = record {
  underway : Underway (exploration_shape l.exploration) (exploration_state l.exploration) (in_order_on l.exploration l.frame l.path (rules_of (map rule_of l.parts))) (order_left l.exploration l.frame l.path l.parts l.i) l.sorted.done.items l.sorted.more.items;
  placed : BothHave (IsPlacedBefore l.path l.i) l.sorted;
  differ : AllDiffer l.path [] l.sorted;
  made : MadeSoFar (exploration_shape l.exploration) (exploration_state l.exploration) (order_made_on l.exploration l.frame l.path (rules_of (map rule_of l.parts))) (makings.order_left l.exploration l.frame l.path l.parts l.i) l.sorted.done.items l.sorted.more.items;
}

abbrev pub invariant-list_turns-loop-turn : goal.invariant-list_turns-loop-turn
invariant-list_turns-loop-turn l = record {
  underway : Underway (exploration_shape l.exploration) (exploration_state l.exploration) (yields_on l.exploration l.frame l.path (tree.Iterate (rule_of l.body)))
      (turns_left l.exploration l.frame l.path (rule_of l.body) (l.exploration.turns - l.turn) l.turn) l.sorted.done.items l.sorted.more.items;
  placed : BothHave (IsPlacedBefore l.path l.turn) l.sorted;
  differ : AllDiffer l.path [] l.sorted;
  made : MadeSoFar (exploration_shape l.exploration) (exploration_state l.exploration) (makes_on l.exploration l.frame l.path (tree.Iterate (rule_of l.body)))
      (makings.turns_left l.exploration l.frame l.path (rule_of l.body) (l.exploration.turns - l.turn) l.turn) l.sorted.done.items l.sorted.more.items;
}

-- the first of those that go on have gone on
abbrev pub invariant-list_next-loop-i : goal.invariant-list_next-loop-i
invariant-list_next-loop-i l = record {
  next : Next (exploration_shape l.exploration) l.turns (exploration_state l.exploration) (here_on l.exploration l.frame (at l.path l.number) (rule_of l.rule)) (take l.i l.front) l.initial.sorted.done.items l.sorted;
  placed : HaveChoices (IsPlacedBefore l.path l.number) l.front → HaveChoices (IsPlacedBefore l.path l.number) l.initial.sorted.done.items
      → BothHave (IsPlacedBefore l.path (l.number + 1)) l.sorted;
  differ : AreDifferent l.path (choice_lists l.initial.sorted.done.items ++ choice_lists l.front) → AllDiffer l.path (drop l.i l.front) l.sorted;
  made : (total : Situation → List Choice) (left left_then : Situation → State → List Choice)
      → MakesTo l.turns (here_on l.exploration l.frame (at l.path l.number) (rule_of l.rule)) (made_on l.exploration l.frame (at l.path l.number) (rule_of l.rule)) left left_then
      → MadeSoFar (exploration_shape l.exploration) (exploration_state l.exploration) total left l.initial.sorted.done.items l.front → MadeSoFar (exploration_shape l.exploration) (exploration_state l.exploration) total left_then l.sorted.done.items l.sorted.more.items;
}
