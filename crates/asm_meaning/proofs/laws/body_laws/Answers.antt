use Rattle.asm_meaning.proofs.BesideLemmas.GroupsBeside.{body_laws-begin, body_laws-counted, body_laws-passed, body_laws-end}
use Rattle.asm_meaning.proofs.laws.body_laws.Goals as goal

pub returns-clause-begin : goal.returns-clause-begin
returns-clause-begin c at = body_laws-begin

pub returns-clause-counted : goal.returns-clause-counted
returns-clause-counted c at = body_laws-counted

pub returns-clause-passed : goal.returns-clause-passed
returns-clause-passed c at = body_laws-passed

pub returns-clause-end : goal.returns-clause-end
returns-clause-end c at = body_laws-end
