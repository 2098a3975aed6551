-- Bridge to the code. The table as plain data: what its words say of the logs of all seats, and
-- what each step does to a seat's view.
use Rattle.std.specs.Prelude.{◌≡◌, ℕ, ◌+◌, ◌-◌, ◌*◌, ◌<◌, ◌≤◌, List, [], ◌∷◌, ◌++◌, length, slice_index, Option, Some, None, All, Contains, ◌⊎◌, flat_map}
use mathlib.Core.Option.{some}
use lib.ListN.{get_elem?}
use Rattle.atomic_table.specs.Table.{State, Me}
use Rattle.asm_updates.specs.code.SummaryRanges.{SummaryRanges, summary_range}
use Rattle.asm_striped.specs.declared.board.Put.{Put}
use Rattle.asm_striped.specs.declared.board.Known.{Known}
use Rattle.asm_striped.specs.declared.board.TableSize.{TableSize}
use Rattle.asm_striped.specs.code.Log.{low_mark, high_mark, IsPut, ShowRange, AreWordsOf, values_at, lows_at, highs_at, least, greatest}

-- word 0 is the seats' word, where seats are split and joined; then each location has its low and
-- its high word
abbrev pub seats_place : ℕ
seats_place = 0

abbrev pub low_place : ℕ → ℕ
low_place n = 2 * n + 1

abbrev pub high_place : ℕ → ℕ
high_place n = 2 * n + 2

-- the words of each location are those of some range
abbrev pub AreBounds : ℕ → List ℕ → Type 0
AreBounds count words = (n : ℕ) → n < count → ShowRange (slice_index words (low_place n)) (slice_index words (high_place n))

-- the summary has these ranges, and no more
pub record HasWords (count : ℕ) (words : List ℕ) (s : SummaryRanges) : Type 0 where
  pub size : s.count ≡ count
  pub each : (n : ℕ) → n < count → AreWordsOf (summary_range s n) (slice_index words (low_place n)) (slice_index words (high_place n))
  pub no_more : (n : ℕ) → count ≤ n → summary_range s n ≡ None

-- words of a table in which nothing was put
pub record AreMarks (count : ℕ) (words : List ℕ) : Type 0 where
  pub size : length words ≡ 2 * count + 1
  pub seats : slice_index words seats_place ≡ 0
  pub lows : (n : ℕ) → n < count → slice_index words (low_place n) ≡ low_mark
  pub highs : (n : ℕ) → n < count → slice_index words (high_place n) ≡ high_mark

abbrev pub listed : Option Put → List Put
listed None = []
listed (Some e) = e ∷ []

-- a put that is half done counts with its low, and not with its high
abbrev pub lows_counted : Known → List Put
lows_counted v = v.log ++ listed v.begun

abbrev pub highs_counted : Known → List Put
highs_counted v = v.log

-- the puts of all seats whose lows count, and those whose highs count
abbrev pub low_puts : List Known → List Put
low_puts = flat_map lows_counted

abbrev pub high_puts : List Known → List Put
high_puts = flat_map highs_counted

-- the low word of a location is the least low in the logs of all seats, and the high word the
-- greatest high
abbrev pub low_word : ℕ → List Known → ℕ
low_word n views = least (lows_at n (low_puts views))

abbrev pub high_word : ℕ → List Known → ℕ
high_word n views = greatest (highs_at n (high_puts views))

abbrev pub total_parts : List Known → ℕ
total_parts [] = 0
total_parts (v ∷ vs) = v.parts + total_parts vs

-- the first seat
abbrev pub opening_view : ℕ → Known
opening_view parts = record { parts = parts; log = []; begun = None; lows = []; highs = [] }

-- a seat that another took in
abbrev pub spent : Known
spent = opening_view 0

-- each value that is known is the mark, or was put at its location
abbrev pub WerePut : (Put → ℕ) → ℕ → List (ℕ × ℕ) → List Put → Type 0
WerePut value mark known puts = All (λ k. (k.1 ≡ mark) ⊎ Contains (values_at value k.0 puts) k.1) known

abbrev pub LowsWerePut : List (ℕ × ℕ) → List Put → Type 0
LowsWerePut = WerePut (λ e. e.low) low_mark

abbrev pub HighsWerePut : List (ℕ × ℕ) → List Put → Type 0
HighsWerePut = WerePut (λ e. e.high) high_mark

-- what the words and the shares are: functions of the logs of all seats. The seats' word never
-- changes
pub record ShowsLogs (extent : TableSize) (s : State (Unit {0}) Known) : Type 0 where
  pub size : length s.words ≡ 2 * extent.count + 1
  pub seats : slice_index s.words seats_place ≡ 0
  pub low_words : (n : ℕ) → n < extent.count → slice_index s.words (low_place n) ≡ low_word n s.views
  pub high_words : (n : ℕ) → n < extent.count → slice_index s.words (high_place n) ≡ high_word n s.views
  pub parts : total_parts s.views ≡ extent.parts

-- the rule of the table: words and shares are what all logs say, and what a seat knows was put
pub record IsBoard (extent : TableSize) (s : State (Unit {0}) Known) : Type 0 where
  pub shows : ShowsLogs extent s
  pub only_spent : (k : ℕ) (v : Known) → get_elem? s.views k ≡ some v → v.parts ≡ 0 → v ≡ spent
  pub entries : All (IsPut extent.count) (low_puts s.views)
  pub lows : (k : ℕ) (v : Known) → get_elem? s.views k ≡ some v → LowsWerePut v.lows (low_puts s.views)
  pub highs : (k : ℕ) (v : Known) → get_elem? s.views k ≡ some v → HighsWerePut v.highs (high_puts s.views)

-- the low put and the low found are known
abbrev pub after_begin : Known → Put → ℕ → Known
after_begin v e found = record { parts = v.parts; log = v.log; begun = Some e; lows = v.lows ++ (e.location, e.low) ∷ (e.location, found) ∷ []; highs = v.highs }

-- the put is whole, and the high put and the high found are known
abbrev pub after_end : Known → Put → ℕ → Known
after_end v e found = record { parts = v.parts; log = v.log ++ e ∷ []; begun = None; lows = v.lows; highs = v.highs ++ (e.location, e.high) ∷ (e.location, found) ∷ [] }

-- no low that is known at the location is below this one
abbrev pub AtMostKnown : List (ℕ × ℕ) → ℕ → ℕ → Type 0
AtMostKnown lows location low = All (λ k. k.0 ≡ location → low ≤ k.1) lows

-- no high that is known at the location is above this one
abbrev pub AtLeastKnown : List (ℕ × ℕ) → ℕ → ℕ → Type 0
AtLeastKnown highs location high = All (λ k. k.0 ≡ location → k.1 ≤ high) highs

abbrev pub IsLowPut : Put → Me (Unit {0}) Known → ℕ → Me (Unit {0}) Known → Type 0
IsLowPut e before found after = (after ≡ (after_begin before.0 e found, before.1)) × AtMostKnown before.0.lows e.location found

abbrev pub IsHighPut : Put → Me (Unit {0}) Known → ℕ → Me (Unit {0}) Known → Type 0
IsHighPut e before found after = (after ≡ (after_end before.0 e found, before.1)) × AtLeastKnown before.0.highs e.location found

-- the seat that gives one part away, and the new seat, which knows the same and has put nothing
abbrev pub giver : Known → Known
giver v = record { parts = v.parts - 1; log = v.log; begun = v.begun; lows = v.lows; highs = v.highs }

abbrev pub taker : Known → Known
taker v = record { parts = 1; log = []; begun = None; lows = v.lows; highs = v.highs }

abbrev pub joined : Known → Known → Known
joined v w = record { parts = v.parts + w.parts; log = v.log ++ w.log; begun = None; lows = v.lows ++ w.lows; highs = v.highs ++ w.highs }
