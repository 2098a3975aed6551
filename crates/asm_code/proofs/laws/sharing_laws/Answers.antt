use Rattle.asm_code.proofs.SharedCodes.{sharing_laws-codes, sharing_laws-rules}
use Rattle.asm_code.proofs.laws.sharing_laws.Goals as goal

pub returns-clause-codes : goal.returns-clause-codes
returns-clause-codes c = sharing_laws-codes

pub returns-clause-rules : goal.returns-clause-rules
returns-clause-rules c = sharing_laws-rules
