use Rattle.std.proofs.Common.{◌≡◌, ◌+◌, ◌*◌, ◌++◌, List, map, drop}
use Rattle.asm_state.specs.Signature.{count_of, location_at}
use Rattle.asm_code.specs.code.RuleMeaning.{rule_size, rule_sizes}
use Rattle.asm_code.specs.code.RuleTree as tree
use Rattle.asm_code.specs.code.RuleViews.{rule_of, rules_of}
use Rattle.asm_eval.specs.code.Opening.{work_of}
use Rattle.asm_eval.specs.code.Evaluation.{evaluation_choices, evaluation_shape, evaluation_state}
use Rattle.asm_clash.specs.code.StandingRules.{order_story, stands_at, story_in}
use Rattle.asm_clash.specs.Standing.{Assigned}
use Rattle.asm_clash.specs.code.FirstFound.{IsFound}
use Rattle.asm_clash.proofs.OpenedRules.{works_stand}
use Rattle.asm_clash.proofs.Sequences.{IsWalked, order_left, turns_left}
use Rattle.asm_clash.proofs.standing.+walk.Given as goal

-- ---- that it ends: each goes by its rule

abbrev pub decreases-standing_in : goal.decreases-standing_in
decreases-standing_in g l = 5 * rule_size (rule_of l.piece.now.rule.now) + 1

abbrev pub decreases-standing_in_order : goal.decreases-standing_in_order
decreases-standing_in_order g l = 5 * rule_sizes (rules_of (map rule_of l.parts.now)) + 5

abbrev pub decreases-standing_in_turns : goal.decreases-standing_in_turns
decreases-standing_in_turns g l = 5 * rule_size (rule_of l.body.now) + 5

abbrev pub decreases-standing_next : goal.decreases-standing_next
decreases-standing_next g l = 5 * rule_size (rule_of l.rule.now) + 4

-- ---- the loops

-- what stands of the first pieces, and of those that are left
abbrev pub invariant-standing_in-loop-i : goal.invariant-standing_in-loop-i
invariant-standing_in-loop-i g l =
    let r = l.evaluation in
    let shape = evaluation_shape r in
    let at = location_at shape l.sought.location in
    let whole = stands_at r at l.sought.given.now l.piece.frame l.piece.path (rule_of l.piece.rule.now) in
    let left = works_stand shape r.turns (evaluation_choices r) at (evaluation_state r) l.given.items (map (work_of shape) (drop l.i l.pieces.items)) in
    (first : List Assigned) × IsFound l.sought.most first l.all × (whole ≡ first ++ left)

-- the sets of the parts so far, and what is left of the parts
abbrev pub invariant-standing_in_order-loop-i : goal.invariant-standing_in_order-loop-i
invariant-standing_in_order-loop-i g l =
    let r = l.evaluation in
    let shape = evaluation_shape r in
    let at = location_at shape l.sought.location in
    record {
      counted : l.so_far.count ≡ count_of shape;
      stand : List Assigned;
      kept : IsFound l.sought.most stand l.found;
      walked : IsWalked shape at (evaluation_state r) (order_story r l.sought.given.now l.frame l.path 0 (rules_of (map rule_of l.parts)) (evaluation_state r))
          (order_left r l.sought.given.now l.frame l.path l.parts l.i) stand l.so_far;
    }

-- the sets of the turns so far, and what is left of the turns
abbrev pub invariant-standing_in_turns-loop-turn : goal.invariant-standing_in_turns-loop-turn
invariant-standing_in_turns-loop-turn g l =
    let r = l.evaluation in
    let shape = evaluation_shape r in
    let at = location_at shape l.sought.location in
    record {
      counted : l.so_far.count ≡ count_of shape;
      stand : List Assigned;
      kept : IsFound l.sought.most stand l.found;
      walked : IsWalked shape at (evaluation_state r) (story_in r l.sought.given.now l.frame l.path (tree.Iterate (rule_of l.body)) (evaluation_state r))
          (turns_left r l.sought.given.now l.frame l.path (rule_of l.body) l.turn) stand l.so_far;
    }
