-- Bridge to the code. A table and a seat as their callers see them.
use Rattle.std.specs.Prelude.{ℕ, ◌+◌, ◌-◌, List, [], ◌∷◌, ◌++◌}
pub use Rattle.atomic_table.specs.Seated.{TableId}
use Rattle.asm_striped.specs.declared.board.Put.{Put}
use Rattle.asm_striped.specs.declared.board.Known.{Known}

pub record Stripes : Type 0 where
  pub table : TableId
  pub count : ℕ
  pub parts : ℕ

-- which table a seat is of, its share, what it has put, and the lows and highs that it knows
pub record SeatState : Type 0 where
  pub table : TableId
  pub parts : ℕ
  pub log : List Put
  pub lows : List (ℕ × ℕ)
  pub highs : List (ℕ × ℕ)

abbrev pub seat_state : TableId → Known → SeatState
seat_state table v = record { table = table; parts = v.parts; log = v.log; lows = v.lows; highs = v.highs }

-- a seat with all parts, which has put nothing
abbrev pub first_seat : TableId → ℕ → SeatState
first_seat table parts = record { table = table; parts = parts; log = []; lows = []; highs = [] }

-- the put is in the log, and what was put and what was found are known
abbrev pub after_put : SeatState → Put → ℕ → ℕ → SeatState
after_put s e low high = record {
  table = s.table;
  parts = s.parts;
  log = s.log ++ e ∷ [];
  lows = s.lows ++ (e.location, e.low) ∷ (e.location, low) ∷ [];
  highs = s.highs ++ (e.location, e.high) ∷ (e.location, high) ∷ [];
}

-- a seat that has given one part away
abbrev pub without_part : SeatState → SeatState
without_part s = record { table = s.table; parts = s.parts - 1; log = s.log; lows = s.lows; highs = s.highs }

-- a new seat of one part, which knows what the old one knows and has put nothing
abbrev pub new_seat : SeatState → SeatState
new_seat s = record { table = s.table; parts = 1; log = []; lows = s.lows; highs = s.highs }

abbrev pub both_seats : SeatState → SeatState → SeatState
both_seats s t = record { table = s.table; parts = s.parts + t.parts; log = s.log ++ t.log; lows = s.lows ++ t.lows; highs = s.highs ++ t.highs }
