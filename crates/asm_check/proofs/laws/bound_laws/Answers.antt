use Rattle.std.proofs.Common.{refl}
use Rattle.asm_check.proofs.laws.bound_laws.Goals as goal

pub returns : goal.returns
returns c = record { rules = refl; rank = refl }
