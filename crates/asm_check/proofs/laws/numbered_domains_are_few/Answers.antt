use Rattle.asm_check.proofs.NumberLemmas.NumberedBodies.{numbered_domains_are_few}
use Rattle.asm_check.proofs.laws.numbered_domains_are_few.Goals as goal

pub returns : goal.returns
returns c = numbered_domains_are_few
