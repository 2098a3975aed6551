use Rattle.asm_eval.proofs.SequenceLaws.{part_laws-good_part, part_laws-faulty_part, part_laws-exhausted_part, part_laws-good_turn, part_laws-last_turn, part_laws-exhausted_turn, part_laws-consistent_part, part_laws-ending_part, part_laws-some_turn, part_laws-consistent_turn, part_laws-ending_turn}
use Rattle.asm_eval.proofs.laws.part_laws.Goals as goal

pub returns-clause-good_part : goal.returns-clause-good_part
returns-clause-good_part c = part_laws-good_part

pub returns-clause-faulty_part : goal.returns-clause-faulty_part
returns-clause-faulty_part c = part_laws-faulty_part

pub returns-clause-exhausted_part : goal.returns-clause-exhausted_part
returns-clause-exhausted_part c = part_laws-exhausted_part

pub returns-clause-good_turn : goal.returns-clause-good_turn
returns-clause-good_turn c = part_laws-good_turn

pub returns-clause-last_turn : goal.returns-clause-last_turn
returns-clause-last_turn c = part_laws-last_turn

pub returns-clause-exhausted_turn : goal.returns-clause-exhausted_turn
returns-clause-exhausted_turn c = part_laws-exhausted_turn

pub returns-clause-consistent_part : goal.returns-clause-consistent_part
returns-clause-consistent_part c = part_laws-consistent_part

pub returns-clause-ending_part : goal.returns-clause-ending_part
returns-clause-ending_part c = part_laws-ending_part

pub returns-clause-some_turn : goal.returns-clause-some_turn
returns-clause-some_turn c = part_laws-some_turn

pub returns-clause-consistent_turn : goal.returns-clause-consistent_turn
returns-clause-consistent_turn c = part_laws-consistent_turn

pub returns-clause-ending_turn : goal.returns-clause-ending_turn
returns-clause-ending_turn c = part_laws-ending_turn
