use Rattle.asm_code.specs.code.RuleMeaning.{rule_size}
use Rattle.asm_code.specs.code.RuleViews.{rule_of}
use Rattle.asm_run.proofs.work_budget.+budget_after_regions.Given as goal

abbrev pub decreases-budget_after_regions : goal.decreases-budget_after_regions
decreases-budget_after_regions l = rule_size (rule_of l.rule.now)
