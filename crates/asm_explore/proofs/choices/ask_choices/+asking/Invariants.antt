use Rattle.std.proofs.Common.{◌≡◌, ◌+◌, ◌*◌, ◌-◌, ◌++◌, map, take}
use Rattle.std.specs.List.{flat_map}
use Rattle.asm_state.specs.Signature.{count_of}
use Rattle.asm_code.specs.code.RuleMeaning.{rule_size, rule_sizes}
use Rattle.asm_code.specs.code.RuleTree as tree
use Rattle.asm_code.specs.code.RuleViews.{rule_of, rules_of}
use Rattle.asm_eval.specs.code.Evaluation.{evaluation_shape, evaluation_state}
use Rattle.asm_explore.specs.code.AskedPieces.{all_said, asks_at, own_at, piece_asks}
use Rattle.asm_explore.proofs.ChoiceLemmas.AskedOrder.{IsAsking, parts_left, turns_left}
use Rattle.asm_explore.proofs.choices.ask_choices.+asking.Given as goal

-- ---- that it ends: each goes by the rule that it looks at

abbrev pub decreases-add_asked : goal.decreases-add_asked
decreases-add_asked g l = 8 * rule_size (rule_of l.piece.now.rule.now) + 2

abbrev pub decreases-add_closed : goal.decreases-add_closed
decreases-add_closed g l = 8 * rule_size (rule_of l.piece.now.rule.now) + 1

abbrev pub decreases-add_in_order : goal.decreases-add_in_order
decreases-add_in_order g l = 8 * rule_sizes (rules_of (map rule_of l.parts.now)) + 5

abbrev pub decreases-add_turns : goal.decreases-add_turns
decreases-add_turns g l = 8 * rule_size (rule_of l.body.now) + 5

abbrev pub decreases-add_next : goal.decreases-add_next
decreases-add_next g l = 8 * rule_size (rule_of l.rule.now) + 4

abbrev pub decreases-asked_upon : goal.decreases-asked_upon
decreases-asked_upon g l = 8 * rule_size (rule_of l.piece.now.rule.now) + 3

-- ---- the loops

-- what was asked in the first pieces
abbrev pub invariant-add_asked-loop-i : goal.invariant-add_asked-loop-i
invariant-add_asked-loop-i g l =
    all_said l.into.items ≡ (all_said l.fn.into.items ++ own_at l.evaluation l.piece) ++ flat_map (piece_asks l.evaluation) (take l.i l.pieces.items)

-- what is left of the parts, and of the turns
abbrev pub invariant-add_in_order-loop-i : goal.invariant-add_in_order-loop-i
invariant-add_in_order-loop-i g l = record {
  counted : l.so_far.count ≡ count_of (evaluation_shape l.evaluation);
  asking : IsAsking (evaluation_shape l.evaluation) (evaluation_state l.evaluation) l.so_far (parts_left l.evaluation l.frame l.path l.parts l.i)
      (all_said l.fn.into.items ++ asks_at l.evaluation l.frame l.path (tree.Seq (rules_of (map rule_of l.parts))) (evaluation_state l.evaluation)) (all_said l.into.items);
}

abbrev pub invariant-add_turns-loop-turn : goal.invariant-add_turns-loop-turn
invariant-add_turns-loop-turn g l = record {
  counted : l.so_far.count ≡ count_of (evaluation_shape l.evaluation);
  asking : IsAsking (evaluation_shape l.evaluation) (evaluation_state l.evaluation) l.so_far (turns_left l.evaluation l.frame l.path (rule_of l.body) (l.evaluation.turns - l.turn) l.turn)
      (all_said l.fn.into.items ++ asks_at l.evaluation l.frame l.path (tree.Iterate (rule_of l.body)) (evaluation_state l.evaluation)) (all_said l.into.items);
}
