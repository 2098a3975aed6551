use Rattle.asm_check.proofs.UseLemmas.CollectorSteps.{terms_are_counted}
use Rattle.asm_check.proofs.laws.terms_are_counted.Goals as goal

pub returns : goal.returns
returns c = terms_are_counted
