-- Bridge to the code. What the rule of the table says, and that each kind of step keeps
-- it.
--     low_put s id v e, high_put s id v e     the board after the first and after the second step
--                                             of a put by seat id
--     split s id v, join s id v other w       the board after a seat gave a part to a new one, and
--                                             after it took in another
use Rattle.std.specs.Prelude.{◌≡◌, ◌≢◌, ℕ, ◌<◌, ◌≤◌, min, max, List, [], ◌∷◌, ◌++◌, slice_index, slice_set, Some, None}
use mathlib.Core.Option.{some}
use lib.ListN.{get_elem?}
use Rattle.atomic_table.specs.Table.{State, opening}
use Rattle.asm_striped.specs.declared.board.Put.{Put}
use Rattle.asm_striped.specs.declared.board.Known.{Known}
use Rattle.asm_striped.specs.declared.board.TableSize.{TableSize}
use Rattle.asm_striped.specs.code.Log.{IsPut}
use Rattle.asm_striped.specs.code.Board.{AreMarks, low_place, high_place, opening_view, spent, ShowsLogs, after_begin, after_end, giver, taker, joined}

abbrev pub Board : Type 0
Board = State (Unit {0}) Known

-- one step changes a word and the view of one seat
abbrev pub changed : Board → (place word id : ℕ) → Known → Board
changed s place word id w = record { words = slice_set s.words place word; homes = s.homes; views = slice_set s.views id w }

abbrev pub low_put : Board → ℕ → Known → Put → Board
low_put s id v e = let found = slice_index s.words (low_place e.location) in changed s (low_place e.location) (min found e.low) id (after_begin v e found)

abbrev pub high_put : Board → ℕ → Known → Put → Board
high_put s id v e = let found = slice_index s.words (high_place e.location) in changed s (high_place e.location) (max found e.high) id (after_end v e found)

abbrev pub split : Board → ℕ → Known → Board
split s id v = record { words = s.words; homes = s.homes; views = slice_set s.views id (giver v) ++ taker v ∷ [] }

abbrev pub join : Board → ℕ → Known → ℕ → Known → Board
join s id v other w = record { words = s.words; homes = s.homes; views = slice_set (slice_set s.views id (joined v w)) other spent }

pub record RuleLaws (holds : TableSize → Board → Type 0) : Type 0 where
  -- the words and the shares are functions of the logs of all seats
  pub says : (extent : TableSize) (s : Board) → holds extent s → ShowsLogs extent s
  -- making
  pub opens : (extent : TableSize) (words : List ℕ) → AreMarks extent.count words → holds extent (opening words [] (opening_view extent.parts))
  -- a put begins: its low is put, and the put is half done
  pub begins : (extent : TableSize) (s : Board) (id : ℕ) (v : Known) (e : Put) → holds extent s → get_elem? s.views id ≡ some v
      → v.begun ≡ None → 0 < v.parts → IsPut extent.count e → holds extent (low_put s id v e)
  -- the put ends: its high is put, and the put is whole
  pub ends : (extent : TableSize) (s : Board) (id : ℕ) (v : Known) (e : Put) → holds extent s → get_elem? s.views id ≡ some v
      → v.begun ≡ Some e → 0 < v.parts → holds extent (high_put s id v e)
  -- one part goes to a new seat
  pub splits : (extent : TableSize) (s : Board) (id : ℕ) (v : Known) → holds extent s → get_elem? s.views id ≡ some v
      → 2 ≤ v.parts → holds extent (split s id v)
  -- a seat takes in another
  pub joins : (extent : TableSize) (s : Board) (id : ℕ) (v : Known) (other : ℕ) (w : Known) → holds extent s → get_elem? s.views id ≡ some v
      → get_elem? s.views other ≡ some w → other ≢ id → v.begun ≡ None → w.begun ≡ None → 0 < v.parts → holds extent (join s id v other w)
