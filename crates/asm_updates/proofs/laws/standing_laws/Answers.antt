use Rattle.asm_updates.proofs.StandingLaws.{standing_laws}
use Rattle.asm_updates.proofs.laws.standing_laws.Goals as goal

pub returns : goal.returns
returns c = standing_laws
