use Rattle.std.proofs.Common.{◌≡◌, ℕ, ◌+◌, ◌*◌, ◌<◌, length, get_or}
use Rattle.asm_striped.specs.code.Board.{seats_place, low_place, high_place}
use Rattle.asm_striped.specs.code.Log.{low_mark, high_mark}
use Rattle.asm_striped.proofs.table_words.marks.Given as goal

abbrev pub invariant-loop-n : goal.invariant-loop-n
invariant-loop-n l = record {
  size : length l.words.items ≡ 2 * l.count + 1;
  seats : get_or l.words.items seats_place 0 ≡ 0;
  lows : (k : ℕ) → k < l.n → get_or l.words.items (low_place k) 0 ≡ low_mark;
  highs : (k : ℕ) → k < l.count → get_or l.words.items (high_place k) 0 ≡ high_mark;
}
