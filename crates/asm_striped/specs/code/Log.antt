-- Bridge to the code. What seats have put: lists of puts with codes, and the words that such a list
-- makes at a location.
--     lows_at n log, highs_at n log    the lows and the highs that were put at location n
--     least lows, greatest highs       the words that these make; a mark, if there are none
--     IsSummaryOfLog log s             the summary has the least and the greatest value that was
--                                      put at each location
use Rattle.std.specs.Prelude.{◌≡◌, ℕ, ◌<◌, ◌≤◌, ◌==◌, min, max, List, [], ◌∷◌, if◌then◌else◌, Option, Some, None, IfSome}
use Rattle.asm_state.specs.declared.value.Value.{Value}
use Rattle.asm_state.specs.code.Codes.{code_of}
use Rattle.asm_state.specs.Updates.{Range}
use Rattle.asm_updates.specs.code.SummaryRanges.{SummaryRanges, NamedRanges}
use Rattle.asm_updates.specs.code.EntryLists.{AreInOrder, IsSummaryOf}
use Rattle.asm_striped.specs.declared.board.Put.{Put}

-- the low word of a location where nothing was put
abbrev pub low_mark : ℕ
low_mark = 18446744073709551615

-- the high word of such a location
abbrev pub high_mark : ℕ
high_mark = 0

-- some value has this code
abbrev pub IsCode : ℕ → Type 0
IsCode code = (v : Value) × (code_of v ≡ code)

pub record IsPut (count : ℕ) (e : Put) : Type 0 where
  pub location : e.location < count
  pub low : IsCode e.low
  pub high : IsCode e.high
  pub order : e.low ≤ e.high

abbrev pub put_of : ℕ → ℕ → ℕ → ℕ → Put
put_of task location low high = record { task = task; location = location; low = low; high = high }

-- what the puts at a location have for their low, or for their high
abbrev pub values_at : (Put → ℕ) → ℕ → List Put → List ℕ
values_at value n [] = []
values_at value n (e ∷ es) = if e.location == n then value e ∷ values_at value n es else values_at value n es

abbrev pub lows_at : ℕ → List Put → List ℕ
lows_at = values_at (λ e. e.low)

abbrev pub highs_at : ℕ → List Put → List ℕ
highs_at = values_at (λ e. e.high)

abbrev pub least : List ℕ → ℕ
least [] = low_mark
least (x ∷ xs) = min x (least xs)

abbrev pub greatest : List ℕ → ℕ
greatest [] = high_mark
greatest (x ∷ xs) = max x (greatest xs)

-- the words of a location with this range
abbrev pub low_word_of : Option Range → ℕ
low_word_of None = low_mark
low_word_of (Some r) = code_of r.least

abbrev pub high_word_of : Option Range → ℕ
high_word_of None = high_mark
high_word_of (Some r) = code_of r.greatest

pub record AreWordsOf (r : Option Range) (low high : ℕ) : Type 0 where
  pub is_low : low ≡ low_word_of r
  pub is_high : high ≡ high_word_of r

-- two words are those of some range, whose bounds are in order
pub record ShowRange (low high : ℕ) : Type 0 where
  pub range : Option Range
  pub words : AreWordsOf range low high
  pub order : IfSome range (λ r. code_of r.least ≤ code_of r.greatest)

-- the entries with the values whose codes were put
abbrev pub AreValuesOf : List Put → NamedRanges → Type 0
AreValuesOf [] [] = Unit {0}
AreValuesOf (e ∷ log) (b ∷ es) = (b.0 ≡ e.location) × (code_of b.1.0 ≡ e.low) × (code_of b.1.1 ≡ e.high) × AreValuesOf log es
AreValuesOf _ _ = ⊥

-- the summary of what was put
pub record IsSummaryOfLog (log : List Put) (s : SummaryRanges) : Type 0 where
  pub entries : NamedRanges
  pub are_values : AreValuesOf log entries
  pub in_order : AreInOrder s.count entries
  pub is_summary : IsSummaryOf entries s
