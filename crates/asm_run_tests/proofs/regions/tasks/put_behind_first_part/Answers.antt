use Rattle.asm_run_tests.proofs.regions.tasks.put_behind_first_part.Goals as goal

pub open_piece-requires-clause-piece : goal.open_piece-requires-clause-piece
open_piece-requires-clause-piece c = (c.requires, tt, tt)
