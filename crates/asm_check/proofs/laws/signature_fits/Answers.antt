use Rattle.asm_check.proofs.NumberLemmas.ShapeFits.{signature_fits}
use Rattle.asm_check.proofs.laws.signature_fits.Goals as goal

pub returns : goal.returns
returns c = signature_fits
