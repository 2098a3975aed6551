use Rattle.asm_eval.proofs.SoundMembers.{member_laws-codes, member_laws-held, member_laws-derived, member_laws-chain, member_laws-par, member_laws-seq}
use Rattle.asm_eval.proofs.laws.member_laws.Goals as goal

pub returns-clause-codes : goal.returns-clause-codes
returns-clause-codes c = member_laws-codes

pub returns-clause-held : goal.returns-clause-held
returns-clause-held c = member_laws-held

pub returns-clause-derived : goal.returns-clause-derived
returns-clause-derived c = member_laws-derived

pub returns-clause-chain : goal.returns-clause-chain
returns-clause-chain c = member_laws-chain

pub returns-clause-par : goal.returns-clause-par
returns-clause-par c = member_laws-par

pub returns-clause-seq : goal.returns-clause-seq
returns-clause-seq c = member_laws-seq
