use Rattle.asm_meaning.proofs.MeantDeclarations.{program_declares}
use Rattle.asm_meaning.proofs.laws.program_declares.Goals as goal

pub returns : goal.returns
returns c = program_declares
