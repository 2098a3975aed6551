use Rattle.asm_code.specs.code.CodeViews.{code_of}
use Rattle.asm_code.specs.code.Sizes.{size}
use Rattle.asm_run.proofs.work_budget.+budget_after_term.Given as goal

abbrev pub decreases-budget_after_term : goal.decreases-budget_after_term
decreases-budget_after_term l = size (code_of l.term.now)
