use Rattle.std.proofs.Common.{◌≡◌, ◌++◌, map, drop}
use Rattle.asm_check.specs.code.uses.UseViews.{use_of}
use Rattle.asm_check.specs.code.uses.UseCollector.{binders_of, parameters_of}
use Rattle.asm_syntax.specs.code.Views.{rule_of, rules_of}
use Rattle.asm_check.specs.Names.{uses_of_rules}
use Rattle.asm_check.specs.code.uses.UseCollector.{bound_of}
use Rattle.asm_check.proofs.uses.collector.Collector.+rule_uses.Given as goal

abbrev pub invariant-rules-loop-rule : goal.invariant-rules-loop-rule
invariant-rules-loop-rule l = record {
  found : map use_of l.self.found.items ++ uses_of_rules (rules_of (map rule_of (drop l.rule-index l.rule-items))) (bound_of l.fn.self) ≡ map use_of l.fn.self.found.items ++ uses_of_rules (rules_of (map rule_of l.fn.rules.items)) (bound_of l.fn.self);
  binders : binders_of l.self ≡ binders_of l.fn.self;
  parameters : parameters_of l.self ≡ parameters_of l.fn.self;
}
