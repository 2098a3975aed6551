use Rattle.asm_state.proofs.LocationLemmas.FirstLocations.{first_location_laws}
use Rattle.asm_state.proofs.laws.first_location_laws.Goals as goal

pub returns : goal.returns
returns c = first_location_laws
