use Rattle.std.proofs.Common.{sym, subst}
use Rattle.asm_code.specs.code.RuleMeaning.{IsSoundRule}
use Rattle.asm_code.specs.code.RuleViews.{rule_of}
use Rattle.asm_tests.proofs.evaluation.form_main.Goals as goal

pub form-formed-requires-clause-sound : goal.form-formed-requires-clause-sound
form-formed-requires-clause-sound g c = subst (λ shape. IsSoundRule shape (rule_of c.in_ok-code.code)) (sym c.requires.shaped) c.in_ok-code.ensures.sound
