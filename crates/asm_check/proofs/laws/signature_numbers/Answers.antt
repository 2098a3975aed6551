use Rattle.asm_check.proofs.NumberLemmas.SignatureNumbers.{signature_numbers}
use Rattle.asm_check.proofs.laws.signature_numbers.Goals as goal

pub returns : goal.returns
returns c = signature_numbers
