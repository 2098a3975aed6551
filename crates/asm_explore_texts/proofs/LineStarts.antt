-- Free. Where a line begins.
--     next_start, next_line    behind one byte more, which is no line feed, or is one
use Rattle.std.proofs.Common.{◌≡◌, ◌≢◌, ◌∙◌, ◌==◌, ℕ, zero, suc, ◌+◌, ◌-◌, ◌<◌, true, false, cond, List, ◌∷◌, drop, length, get_or, refl, ap, arith}
use Rattle.std.proofs.lemmas.Bool.{eq-eqb, ne_eqb}
use Rattle.std.proofs.lemmas.List.{drop_more}
use Rattle.asm_explore_texts.specs.Positions.{after_feeds}

at_feed : (feeds b : ℕ) (text : List ℕ) → feeds ≢ 0 → (b == 10) ≡ true → after_feeds feeds (b ∷ text) ≡ suc (after_feeds (feeds - 1) text)
at_feed zero b text some is = absurd (some refl)
at_feed (suc feeds) b text some is =
    let less : feeds ≡ suc feeds - 1 = omega arith in
    ap (λ t. suc (after_feeds (cond t feeds (suc feeds)) text)) is ∙ ap (λ n. suc (after_feeds n text)) less

elsewhere : (feeds b : ℕ) (text : List ℕ) → feeds ≢ 0 → (b == 10) ≡ false → after_feeds feeds (b ∷ text) ≡ suc (after_feeds feeds text)
elsewhere zero b text some is = absurd (some refl)
elsewhere (suc feeds) b text some is = ap (λ t. suc (after_feeds (cond t feeds (suc feeds)) text)) is

module _ (text : List ℕ) (at : ℕ) (low : at < length text) (feeds start : ℕ) (some : feeds ≢ 0) (so : start ≡ at + after_feeds feeds (drop at text)) where
  there : after_feeds feeds (drop at text) ≡ after_feeds feeds (get_or text at 0 ∷ drop (at + 1) text)
  there = ap (after_feeds feeds) (drop_more text at 0 low)

  pub next_start : get_or text at 0 ≢ 10 → start ≡ at + 1 + after_feeds feeds (drop (at + 1) text)
  next_start other = omega (arith, so, there, elsewhere feeds (get_or text at 0) (drop (at + 1) text) some (ne_eqb (get_or text at 0) 10 other))

  pub next_line : get_or text at 0 ≡ 10 → start ≡ at + 1 + after_feeds (feeds - 1) (drop (at + 1) text)
  next_line is = omega (arith, so, there, at_feed feeds (get_or text at 0) (drop (at + 1) text) some (eq-eqb (get_or text at 0) 10 is))
