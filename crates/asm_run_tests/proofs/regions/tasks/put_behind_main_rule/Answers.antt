use Rattle.std.proofs.Common.{sym, subst}
use Rattle.asm_code.specs.code.RuleMeaning.{IsSoundRule}
use Rattle.asm_code.specs.code.RuleViews.{rule_of}
use Rattle.asm_run_tests.proofs.regions.tasks.put_behind_main_rule.Goals as goal

pub put_behind_first_part-found-requires : goal.put_behind_first_part-found-requires
put_behind_first_part-found-requires c = subst (λ shape. IsSoundRule shape (rule_of c.in_ok-code.code)) (sym c.requires) c.in_ok-code.ensures.sound
