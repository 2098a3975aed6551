use Rattle.asm_check.proofs.UseLemmas.FitTerms.{terms_are_fit}
use Rattle.asm_check.proofs.laws.terms_are_fit.Goals as goal

pub returns : goal.returns
returns c = terms_are_fit
