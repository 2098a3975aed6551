use Rattle.asm_random.proofs.random.random_runs.Goals as goal

pub runs_by-requires : goal.runs_by-requires
runs_by-requires g c = c.in_ok-code.ensures
