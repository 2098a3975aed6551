use Rattle.asm_eval.proofs.Candidates.{candidate_laws-one_more, candidate_laws-none_more, candidate_laws-met, candidate_laws-passed, candidate_laws-taken, candidate_laws-taken_again, candidate_laws-some, candidate_laws-none}
use Rattle.asm_eval.proofs.laws.candidate_laws.Goals as goal

pub returns-clause-one_more : goal.returns-clause-one_more
returns-clause-one_more c = candidate_laws-one_more

pub returns-clause-none_more : goal.returns-clause-none_more
returns-clause-none_more c = candidate_laws-none_more

pub returns-clause-met : goal.returns-clause-met
returns-clause-met c = candidate_laws-met

pub returns-clause-passed : goal.returns-clause-passed
returns-clause-passed c = candidate_laws-passed

pub returns-clause-taken : goal.returns-clause-taken
returns-clause-taken c = candidate_laws-taken

pub returns-clause-taken_again : goal.returns-clause-taken_again
returns-clause-taken_again c = candidate_laws-taken_again

pub returns-clause-some : goal.returns-clause-some
returns-clause-some c = candidate_laws-some

pub returns-clause-none : goal.returns-clause-none
returns-clause-none c = candidate_laws-none
