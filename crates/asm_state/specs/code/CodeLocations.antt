-- Bridge to the code. The locations that those of the code stand for.
use Rattle.asm_state.specs.declared.location.Location as code
use Rattle.asm_state.specs.declared.location.Location.TheVariants as variant
use Rattle.asm_state.specs.Location.{Location, Proper, Stray}

abbrev pub location_of : code.Location → Location
location_of (variant.Proper f arguments) = Proper f arguments
location_of (variant.Stray f) = Stray f
