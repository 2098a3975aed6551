use Rattle.asm_explore_random.proofs.random_asked.ask_random.Goals as goal

pub returns-in-Ok-clause-found : goal.returns-in-Ok-clause-found
returns-in-Ok-clause-found c = c.in-Ok.ensures.found c.args.text.now c.in_ok-checked.ensures.found
