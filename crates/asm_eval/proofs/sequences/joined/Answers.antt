use Rattle.asm_eval.proofs.SequencesUpon.{joined_empty, joined_consistent, joined_inconsistent}
use Rattle.asm_eval.proofs.sequences.joined.Goals as goal

pub returns-in-Empty : goal.returns-in-Empty
returns-in-Empty c U V consistent is later = joined_empty U V c.args.first c.args.then consistent is later c.in-Empty.is

pub returns-in-Consistent : goal.returns-in-Consistent
returns-in-Consistent c U V consistent is later = joined_consistent U V c.args.first c.args.then consistent is later c.in-Consistent.is

pub returns-in-Inconsistent : goal.returns-in-Inconsistent
returns-in-Inconsistent c U V consistent is later = joined_inconsistent U V c.args.first c.args.then consistent is later c.in-Inconsistent.is
