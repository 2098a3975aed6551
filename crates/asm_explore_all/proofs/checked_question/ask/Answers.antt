use Rattle.asm_explore_all.proofs.checked_question.ask.Goals as goal

pub returns-in-Ok-clause-found : goal.returns-in-Ok-clause-found
returns-in-Ok-clause-found c = c.in-Ok.ensures.found c.args.text.now c.in_ok-checked.ensures.found
