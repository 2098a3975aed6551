use Rattle.asm_clash.proofs.StandingSets.{standing_laws}
use Rattle.asm_clash.proofs.laws.standing_laws.Goals as goal

pub returns : goal.returns
returns c = standing_laws
