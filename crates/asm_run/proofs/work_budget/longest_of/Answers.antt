use Rattle.asm_eval.proofs.SoundMembers.{member_laws-codes as code_sound}
use Rattle.asm_run.proofs.work_budget.longest_of.Goals as goal

pub budget_after_term-requires : goal.budget_after_term-requires
budget_after_term-requires c = code_sound c.args.signature.now c.args.terms.now c.loop-term.term-index c.term-item.result c.loop-term-test.true c.term-item.is c.requires
