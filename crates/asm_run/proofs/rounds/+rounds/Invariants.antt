use Rattle.asm_run.proofs.rounds.+rounds.Given as goal

abbrev pub decreases-work_rounds : goal.decreases-work_rounds
decreases-work_rounds g l = l.left
