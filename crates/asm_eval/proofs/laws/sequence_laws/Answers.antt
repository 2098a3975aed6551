use Rattle.asm_eval.proofs.SequenceLaws.{sequence_laws-goes_upon, sequence_laws-goes_by}
use Rattle.asm_eval.proofs.laws.sequence_laws.Goals as goal

pub returns-clause-goes_upon : goal.returns-clause-goes_upon
returns-clause-goes_upon c = sequence_laws-goes_upon

pub returns-clause-goes_by : goal.returns-clause-goes_by
returns-clause-goes_by c = sequence_laws-goes_by
