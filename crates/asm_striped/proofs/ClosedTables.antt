-- Free. What callers are told when a table is closed.
use Rattle.std.proofs.Common.{◌≡◌, ℕ, ◌<◌, ◌≤◌, List, None, get_or, sym, ap, ◌∙◌, subst, ⊎_elim}
use Rattle.std.proofs.lemmas.Bool.{cases_lt}
use Rattle.atomic_table.specs.Table.{Final, Seen}
use Rattle.atomic_table.specs.Seated.{TableId}
use Rattle.asm_updates.specs.code.SummaryRanges.{SummaryRanges, summary_range}
use Rattle.asm_updates.specs.code.EntryLists.{range_in, AreInOrder}
use Rattle.asm_striped.specs.declared.board.Known.{Known}
use Rattle.asm_striped.specs.declared.board.TableSize.{TableSize}
use Rattle.asm_striped.specs.code.Log.{AreWordsOf, IsSummaryOfLog}
use Rattle.asm_striped.specs.code.Board.{AreBounds, HasWords, low_place, high_place, IsBoard, LowsWerePut, HighsWerePut}
use Rattle.asm_striped.specs.code.Seats.{Stripes, SeatState, seat_state}
use Rattle.asm_striped.proofs.Ranges.{same_range, lows_say, highs_say, Valued, valued, range_ordered, range_above}
use Rattle.asm_striped.proofs.Steps.{Closes, closes}

pub record Told (count : ℕ) (words : List ℕ) (seat : SeatState) : Type 0 where
  pub bounds : AreBounds count words
  pub summary : (s : SummaryRanges) → HasWords count words s → IsSummaryOfLog seat.log s
  pub lows : LowsWerePut seat.lows seat.log
  pub highs : HighsWerePut seat.highs seat.log

module _ (extent : TableSize) (words : List ℕ) (v : Known) (c : Closes extent words v) where
  given : Valued extent.count v.log
  given = valued extent.count v.log c.entries

  words_say : (n : ℕ) → n < extent.count → AreWordsOf (range_in given.entries n) (get_or words (low_place n) 0) (get_or words (high_place n) 0)
  words_say n h = record {
    is_low = c.low_words n h ∙ lows_say n v.log given.entries given.are_values;
    is_high = c.high_words n h ∙ highs_say n v.log given.entries given.are_values;
  }

  summary_is : (s : SummaryRanges) → HasWords extent.count words s → IsSummaryOfLog v.log s
  summary_is s has = record {
    entries = given.entries;
    are_values = given.are_values;
    in_order = subst (λ k. AreInOrder k given.entries) (sym has.size) given.in_order;
    is_summary = λ n. ⊎_elim
        (λ (below : n < extent.count). same_range (summary_range s n) (range_in given.entries n) (get_or words (low_place n) 0) (get_or words (high_place n) 0) (has.each n below) (words_say n below))
        (λ (past : extent.count ≤ n). has.no_more n past ∙ sym (range_above extent.count given.entries given.in_order.in_range n past))
        (cases_lt n extent.count);
  }

  told : (table : TableId) → Told extent.count words (seat_state table v)
  told table = record {
    bounds = λ n h. record { range = range_in given.entries n; words = words_say n h; order = range_ordered extent.count given.entries given.in_order n };
    summary = summary_is;
    lows = c.lows;
    highs = c.highs;
  }

pub tells : (extent : TableSize) (stripes : Stripes) (name table : TableId) (id : ℕ) (v : Known) (words : List ℕ) (xs : List (Unit {0})) (seat : SeatState)
    → seat_state table v ≡ seat → record { table = name; count = extent.count; parts = extent.parts } ≡ stripes → seat.parts ≡ stripes.parts → v.begun ≡ None
    → Final (Seen (IsBoard extent) id v) words xs → Told stripes.count words seat
tells extent stripes name table id v words xs seat is same all idle final =
    let left = closes extent id v words xs (ap (λ (x : SeatState). x.parts) is ∙ all ∙ sym (ap (λ (x : Stripes). x.parts) same)) idle final in
    subst (λ (x : ℕ × SeatState). Told x.0 words x.1) (λ i. ((same i).count, is i)) (told extent words v left table)
