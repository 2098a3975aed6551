use Rattle.std.proofs.Common.{◌+◌, ◌*◌, map, take}
use Rattle.asm_code.specs.code.RuleMeaning.{rule_size, rule_sizes}
use Rattle.asm_code.specs.code.RuleViews.{rule_of, rules_of}
use Rattle.asm_explore.proofs.OutcomeLemmas.Choiceless.{EachChoosesNothing}
use Rattle.asm_explore.proofs.outcomes.choiceless.+left.Given as goal

abbrev pub decreases-left_after : goal.decreases-left_after
decreases-left_after l = 2 * rule_size (rule_of l.rule.now)

abbrev pub decreases-left_after_parts : goal.decreases-left_after_parts
decreases-left_after_parts l = 2 * rule_sizes (rules_of (map rule_of l.parts.now)) + 1

-- nothing is chosen in the first parts
abbrev pub invariant-left_after_parts-loop-i : goal.invariant-left_after_parts-loop-i
invariant-left_after_parts-loop-i l = EachChoosesNothing (take l.i l.parts)
