use Rattle.asm_meaning.proofs.TermCases.{unbound_names}
use Rattle.asm_meaning.proofs.laws.unbound_names.Goals as goal

pub returns : goal.returns
returns c = unbound_names
