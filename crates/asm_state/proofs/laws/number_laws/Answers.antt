use Rattle.asm_state.proofs.LocationLemmas.NumberedLocations.{number_laws}
use Rattle.asm_state.proofs.laws.number_laws.Goals as goal

pub returns : goal.returns
returns c = number_laws
