use Rattle.std.proofs.Common.{sym, subst}
use Rattle.asm_code.specs.code.RuleMeaning.{IsSoundRule}
use Rattle.asm_code.specs.code.RuleViews.{rule_of}
use Rattle.asm_run_tests.proofs.regions.questions.main_outcome.Goals as goal

pub outcome-outcome-requires-clause-sound : goal.outcome-outcome-requires-clause-sound
outcome-outcome-requires-clause-sound g c κs within = subst (λ shape. IsSoundRule shape (rule_of c.in_ok-code.code)) (sym c.requires) c.in_ok-code.ensures.sound
