-- Bridge to the code. The faults of update sets, with locations by their numbers.
use Rattle.std.specs.Prelude.{◌≡◌, ◌≢◌, ℕ, IsTrue}
use Rattle.asm_state.specs.declared.value.Value.{Value}
use Rattle.asm_state.specs.Location.{Stray}
use Rattle.asm_state.specs.Signature.{Shape, location_at}
use Rattle.asm_state.specs.Updates.{is_proper}
pub use Rattle.asm_updates.specs.Faults.{fault_of}
use Rattle.asm_updates.specs.declared.fault.Fault.{Fault as NumberedFault}
use Rattle.asm_updates.specs.declared.fault.Fault.TheVariants as numbered

-- the fault that comes of these bounds at a location
abbrev pub IsFaultAt : Shape → ℕ → Value → Value → NumberedFault → Type 0
IsFaultAt shape n low high (numbered.Clash m least greatest) =
    (m ≡ n) × (least ≡ low) × (greatest ≡ high) × (low ≢ high) × IsTrue (is_proper (location_at shape n))
IsFaultAt shape n low high (numbered.Outside f) = location_at shape n ≡ Stray f
