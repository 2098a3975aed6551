use Rattle.asm_meaning.proofs.PlainForms.{plain_terms-constant, plain_terms-named, plain_terms-chain, plain_terms-of_not, plain_terms-negative, plain_terms-exists, plain_terms-every, plain_terms-answer}
use Rattle.asm_meaning.proofs.laws.plain_terms.Goals as goal

pub returns-clause-constant : goal.returns-clause-constant
returns-clause-constant c = plain_terms-constant

pub returns-clause-named : goal.returns-clause-named
returns-clause-named c = plain_terms-named

pub returns-clause-chain : goal.returns-clause-chain
returns-clause-chain c = plain_terms-chain

pub returns-clause-of_not : goal.returns-clause-of_not
returns-clause-of_not c = plain_terms-of_not

pub returns-clause-negative : goal.returns-clause-negative
returns-clause-negative c = plain_terms-negative

pub returns-clause-exists : goal.returns-clause-exists
returns-clause-exists c = plain_terms-exists

pub returns-clause-every : goal.returns-clause-every
returns-clause-every c = plain_terms-every

pub returns-clause-answer : goal.returns-clause-answer
returns-clause-answer c = plain_terms-answer
