use Rattle.std.proofs.Common.{◌≡◌, ◌+◌, ◌-◌, ◌*◌, ◌++◌, map, take, drop, filter}
use Rattle.std.specs.Prelude.{Result, option_map}
use Rattle.asm_state.specs.Signature.{count_of}
use Rattle.asm_state.specs.Updates.{UpdateSet, IsConsistent, fire}
use Rattle.asm_updates.specs.code.Stands.{Stands}
use Rattle.asm_eval.specs.declared.outcome.Forming.{Forming}
use Rattle.asm_eval.specs.declared.stopped.Stopped.{Stopped}
use Rattle.asm_eval.specs.code.FormedOutcomes.{Follows}
use Rattle.asm_meaning.specs.code.Intervals.{between}
use Rattle.asm_code.specs.code.CodeViews.{code_of}
use Rattle.asm_code.specs.code.Readings.{universe_at}
use Rattle.asm_code.specs.code.RuleMeaning.{rule_size, rule_sizes}
use Rattle.asm_code.specs.code.RuleTree as tree
use Rattle.asm_code.specs.code.RuleViews.{rule_of, rules_of}
use Rattle.asm_eval.specs.code.Frames.{readings_of}
use Rattle.asm_eval.specs.code.Evaluation.{evaluation_shape, evaluation_state, evaluation_choices, frame_locations, parts_at, in_order_upon, rule_upon, is_passing, span_at}
use Rattle.asm_eval.proofs.CodeSequences.{parts_left, turns_left}
use Rattle.asm_eval.proofs.SequencesUpon.{IsUpon}
use Rattle.asm_eval.proofs.SpanElements.{IsLeft}
use Rattle.asm_eval.proofs.+form.Given as goal

-- ---- that it ends: each goes by the rule that it forms

abbrev pub decreases-form::form : goal.decreases-form::form
decreases-form::form g l = 8 * rule_size (rule_of l.rule.now) + 1

abbrev pub decreases-form::form_if : goal.decreases-form::form_if
decreases-form::form_if g l = 8 * (rule_size (rule_of l.yes.now) + rule_size (rule_of l.no.now)) + 7

abbrev pub decreases-form::form_let : goal.decreases-form::form_let
decreases-form::form_let g l = 8 * rule_size (rule_of l.body.now) + 7

abbrev pub decreases-form::form_choose : goal.decreases-form::form_choose
decreases-form::form_choose g l = 8 * (rule_size (rule_of l.body.now) + rule_size (rule_of l.none.now)) + 7

abbrev pub decreases-form::form_call : goal.decreases-form::form_call
decreases-form::form_call g l = 8 * rule_size (rule_of l.body.now) + 7

abbrev pub decreases-form::form_part : goal.decreases-form::form_part
decreases-form::form_part g l = 8 * rule_size (rule_of l.rule.now) + 2

abbrev pub decreases-form::form_all : goal.decreases-form::form_all
decreases-form::form_all g l = 8 * rule_sizes (rules_of (map rule_of l.parts.now)) + 3

abbrev pub decreases-form::form_span : goal.decreases-form::form_span
decreases-form::form_span g l = 8 * rule_size (rule_of l.body.now) + 3

abbrev pub decreases-sequences::form_in_order : goal.decreases-sequences::form_in_order
decreases-sequences::form_in_order g l = 8 * rule_sizes (rules_of (map rule_of l.parts.now)) + 7

abbrev pub decreases-sequences::form_turns : goal.decreases-sequences::form_turns
decreases-sequences::form_turns g l = 8 * rule_size (rule_of l.body.now) + 7

abbrev pub decreases-sequences::merge_in_order : goal.decreases-sequences::merge_in_order
decreases-sequences::merge_in_order g l = 8 * rule_sizes (rules_of (map rule_of l.parts.now)) + 6

abbrev pub decreases-sequences::merge_turns : goal.decreases-sequences::merge_turns
decreases-sequences::merge_turns g l = 8 * rule_size (rule_of l.body.now) + 6

abbrev pub decreases-sequences::merge_if : goal.decreases-sequences::merge_if
decreases-sequences::merge_if g l = 8 * (rule_size (rule_of l.yes.now) + rule_size (rule_of l.no.now)) + 6

abbrev pub decreases-sequences::merge_call : goal.decreases-sequences::merge_call
decreases-sequences::merge_call g l = 8 * rule_size (rule_of l.body.now) + 6

abbrev pub decreases-sequences::form_next : goal.decreases-sequences::form_next
decreases-sequences::form_next g l = 8 * rule_size (rule_of l.rule.now) + 5

abbrev pub decreases-sequences::merge_numbered : goal.decreases-sequences::merge_numbered
decreases-sequences::merge_numbered g l = 8 * rule_size (rule_of l.rule.now) + 4

abbrev pub decreases-sequences::merge_rule : goal.decreases-sequences::merge_rule
decreases-sequences::merge_rule g l = 8 * rule_size (rule_of l.rule.now) + 3

abbrev pub decreases-sequences::form_upon : goal.decreases-sequences::form_upon
decreases-sequences::form_upon g l = 8 * rule_size (rule_of l.rule.now) + 2

-- ---- the loops

-- whatever follows what the parts yield that are left follows what all of them yield, from the
-- start on
abbrev pub invariant-form::form_all-loop-i : goal.invariant-form::form_all-loop-i
invariant-form::form_all-loop-i g l = record {
  ready : g.G.Regions.is_ready l.regions;
  same_count : l.forming.set.count ≡ l.initial.forming.set.count;
  same_path : l.forming.path.items ≡ l.initial.forming.path.items;
  follows : (new : Forming) (r : Result (Unit {0}) Stopped)
      → Follows (evaluation_shape l.evaluation) (parts_at l.evaluation l.frame l.initial.forming.path.items l.i (rules_of (map rule_of (drop l.i l.parts)))) l.forming new r
      → Follows (evaluation_shape l.evaluation) (parts_at l.evaluation l.frame l.initial.forming.path.items 0 (rules_of (map rule_of l.parts))) l.initial.forming new r;
}

abbrev pub decreases-form::form_span-loop-i : goal.decreases-form::form_span-loop-i
decreases-form::form_span-loop-i g l = l.to - l.i

-- whatever follows what is left of the values of an interval follows the whole: left are those
-- from a position on for which the condition holds
abbrev pub invariant-form::form_span-loop-i : goal.invariant-form::form_span-loop-i
invariant-form::form_span-loop-i g l =
    let shape = evaluation_shape l.evaluation in
    let us = universe_at shape l.over in
    let passes = is_passing l.evaluation.view.now l.frame l.test in
    record {
      ready : g.G.Regions.is_ready l.regions;
      same_count : l.forming.set.count ≡ l.initial.forming.set.count;
      same_path : l.forming.path.items ≡ l.initial.forming.path.items;
      left : IsLeft shape l.evaluation.turns (evaluation_choices l.evaluation) (readings_of shape l.frame) (frame_locations shape l.frame) (evaluation_state l.evaluation) l.initial.forming.path.items
          passes (rule_of l.body) l.low
          (span_at l.evaluation l.frame l.initial.forming.path.items l.over (option_map code_of l.test) (rule_of l.body) l.from l.to)
          (filter passes (between l.i l.to us)) l.initial.forming l.forming;
    }

-- and those of a block that are left
abbrev pub invariant-form::form_span-loop-k : goal.invariant-form::form_span-loop-k
invariant-form::form_span-loop-k g l =
    let shape = evaluation_shape l.evaluation in
    let us = universe_at shape l.over in
    let passes = is_passing l.evaluation.view.now l.frame l.test in
    record {
      ready : g.G.Regions.is_ready l.regions;
      same_count : l.forming.set.count ≡ l.fn.forming.set.count;
      same_path : l.forming.path.items ≡ l.fn.forming.path.items;
      left : IsLeft shape l.evaluation.turns (evaluation_choices l.evaluation) (readings_of shape l.frame) (frame_locations shape l.frame) (evaluation_state l.evaluation) l.fn.forming.path.items
          passes (rule_of l.body) l.low
          (span_at l.evaluation l.frame l.fn.forming.path.items l.over (option_map code_of l.test) (rule_of l.body) l.from l.to)
          (drop l.k (take l.kept l.elements) ++ filter passes (between (l.i + l.count) l.to us)) l.fn.forming l.forming;
    }

-- after each set that the sets so far may stand for: those of the parts, and what is left of the
-- parts
abbrev pub invariant-sequences::merge_in_order-loop-i : goal.invariant-sequences::merge_in_order-loop-i
invariant-sequences::merge_in_order-loop-i g l =
    let shape = evaluation_shape l.evaluation in
    record {
      ready : g.G.Regions.is_ready l.regions;
      same_count : l.forming.set.count ≡ l.initial.forming.set.count;
      same_path : l.forming.path.items ≡ l.initial.forming.path.items;
      counted : l.so_far.count ≡ count_of shape;
      underway : (U : UpdateSet) → Stands shape l.initial.so_far U → IsConsistent U
          → IsUpon shape U (fire (evaluation_state l.evaluation) U)
          (in_order_upon l.evaluation U l.frame l.initial.forming.path.items (rules_of (map rule_of l.parts)))
          (parts_left shape l.evaluation.turns (evaluation_choices l.evaluation) (readings_of shape l.frame) (frame_locations shape l.frame) l.initial.forming.path.items l.parts l.i)
          l.so_far l.whole l.initial.forming.instances l.forming.instances;
    }

-- the same of the turns
abbrev pub invariant-sequences::merge_turns-loop-turn : goal.invariant-sequences::merge_turns-loop-turn
invariant-sequences::merge_turns-loop-turn g l =
    let shape = evaluation_shape l.evaluation in
    record {
      ready : g.G.Regions.is_ready l.regions;
      same_count : l.forming.set.count ≡ l.initial.forming.set.count;
      same_path : l.forming.path.items ≡ l.initial.forming.path.items;
      counted : l.so_far.count ≡ count_of shape;
      underway : (U : UpdateSet) → Stands shape l.initial.so_far U → IsConsistent U
          → IsUpon shape U (fire (evaluation_state l.evaluation) U)
          (rule_upon l.evaluation U l.frame l.initial.forming.path.items (tree.Iterate (rule_of l.body)))
          (turns_left shape l.evaluation.turns (evaluation_choices l.evaluation) (readings_of shape l.frame) (frame_locations shape l.frame) l.initial.forming.path.items l.evaluation.turns (rule_of l.body) l.turn)
          l.so_far l.whole l.initial.forming.instances l.forming.instances;
    }
