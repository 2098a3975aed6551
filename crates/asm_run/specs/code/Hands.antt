-- Bridge to the code. What workers put into the table of a region.
--     puts task ranges              an entry for each location, with the codes of its least and its
--                                   greatest value
--     LogGrows before more after    a seat has put these entries in addition, and has its table and
--                                   its parts as before
--     TakesHand                     a worker's seat is one of the table, and the set that it forms
--                                   pieces in is empty
--     IsNewHand                     its seat has one part, and has put nothing
--     AreEntriesOf                  entries are those of a set: one for each location that it names
--     LogStands shape log U         the entries of a log have the least and the greatest values of
--                                   U, and name no other location
--     LogsStand shape hands U       the logs of all hands together do
use Rattle.std.specs.Prelude.{◌≡◌, ℕ, ◌+◌, ◌<◌, List, [], ◌∷◌, ◌++◌, map}
use Rattle.asm_state.specs.declared.value.Value.{Value}
use Rattle.asm_state.specs.code.Codes.{code_of}
use Rattle.asm_state.specs.Location.{Location}
use Rattle.asm_state.specs.Signature.{Shape, IsLocationOf, count_of, location_at}
use Rattle.asm_state.specs.Updates.{UpdateSet, Names, none, range_at, together}
use Rattle.asm_updates.specs.code.SummaryRanges.{SummaryRanges, NamedRanges, AreRanges}
use Rattle.asm_updates.specs.code.EntryLists.{range_in}
use Rattle.asm_updates.specs.code.Stands.{Stands}
use Rattle.asm_striped.specs.declared.board.Put.{Put}
use Rattle.asm_striped.specs.code.Log.{AreValuesOf, put_of}
use Rattle.asm_striped.specs.code.Seats.{SeatState, TableId}
use Rattle.asm_run.specs.declared.hand.RegionHand.{RegionHand}

abbrev pub entry_of : ℕ → ℕ × (Value × Value) → Put
entry_of task e = put_of task e.0 (code_of e.1.0) (code_of e.1.1)

abbrev pub puts : ℕ → NamedRanges → List Put
puts task ranges = map (entry_of task) ranges

pub record LogGrows (before : SeatState) (more : List Put) (after : SeatState) : Type 0 where
  pub table : after.table ≡ before.table
  pub parts : after.parts ≡ before.parts
  pub log : after.log ≡ before.log ++ more

-- ---- hands

pub record TakesHand (shape : Shape) (at : TableId) (hand : RegionHand) : Type 0 where
  pub table : hand.seat.table ≡ at
  pub empty : Stands shape hand.own.set none

pub record IsNewHand (shape : Shape) (at : TableId) (hand : RegionHand) : Type 0 where
  pub table : hand.seat.table ≡ at
  pub parts : hand.seat.parts ≡ 1
  pub log : hand.seat.log ≡ []
  pub empty : Stands shape hand.own.set none

abbrev pub parts_of : List RegionHand → ℕ
parts_of [] = 0
parts_of (h ∷ hs) = h.seat.parts + parts_of hs

abbrev pub logs_of : List RegionHand → List Put
logs_of [] = []
logs_of (h ∷ hs) = h.seat.log ++ logs_of hs

-- ---- sets and what is put

pub record AreEntriesOf (shape : Shape) (task : ℕ) (U : UpdateSet) (log : List Put) : Type 0 where
  pub summary : SummaryRanges
  pub sound : AreRanges summary.count summary.ranges
  pub stands : Stands shape summary U
  pub entries : log ≡ puts task summary.ranges

pub record LogStands (shape : Shape) (log : List Put) (U : UpdateSet) : Type 0 where
  pub ranges : NamedRanges
  pub are_values : AreValuesOf log ranges
  pub has_ranges : (n : ℕ) → n < count_of shape → range_in ranges n ≡ range_at U (location_at shape n)
  pub names_within : (l : Location) → Names U l → IsLocationOf shape l

abbrev pub LogsStand : Shape → List RegionHand → UpdateSet → Type 0
LogsStand shape [] U = U ≡ none
LogsStand shape (h ∷ hs) U = (V : UpdateSet) × (W : UpdateSet) × LogStands shape h.seat.log V × LogsStand shape hs W × (U ≡ together V W)
