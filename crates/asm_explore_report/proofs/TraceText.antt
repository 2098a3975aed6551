-- Free. The lines of a text, one byte after the other. A line has begun at `start`, and `known` are
-- those before it.
--     line_ends        a line feed ends it
--     line_goes_on     another byte belongs to it
--     last_line        what is after the last line feed
--     no_last_line     if nothing is after it
use Rattle.std.proofs.Common.{◌≡◌, ◌∙◌, ◌+◌, ◌-◌, ◌<◌, ◌≤◌, ◌==◌, ℕ, true, false, cond, List, [], ◌∷◌, ◌++◌, length, take, drop, get_or, refl, ap, sym, arith, append_assoc, append-nil, length-drop}
use Rattle.std.specs.Prelude.{slice_range}
use Rattle.std.proofs.lemmas.List.{drop_more, take_more, get_or-drop, length-take-le}
use Rattle.asm_explore_report.specs.TraceLines.{lines_behind, rest_lines}

module _ (text : List ℕ) (start k byte : ℕ) (low : k < length text) where
  abbrev pub part : List ℕ
  part = slice_range text start k

  parted : lines_behind (drop k text) part
      ≡ cond (get_or text k byte == 10) (part ∷ lines_behind (drop (k + 1) text) []) (lines_behind (drop (k + 1) text) (part ++ get_or text k byte ∷ []))
  parted = ap (λ bytes. lines_behind bytes part) (drop_more text k byte low)

  nothing : slice_range text (k + 1) (k + 1) ≡ []
  nothing = let none : (k + 1) - (k + 1) ≡ 0 = omega arith in ap (λ n. take n (drop (k + 1) text)) none

  grown : start ≤ k → slice_range text start (k + 1) ≡ part ++ get_or text k byte ∷ []
  grown before =
      let more : (k + 1) - start ≡ (k - start) + 1 = omega arith in
      let at : start + (k - start) ≡ k = omega arith in
      let fits : k - start < length (drop start text) = omega (arith, length-drop start text) in
      ap (λ n. take n (drop start text)) more ∙ (take_more (drop start text) (k - start) byte fits
      ∙ ap (λ b. part ++ b ∷ []) (get_or-drop start text (k - start) byte ∙ ap (λ n. get_or text n byte) at))

  pub line_ends : (known now all : List (List ℕ)) → (get_or text k byte == 10) ≡ true → known ++ lines_behind (drop k text) part ≡ all
      → now ≡ known ++ part ∷ [] → now ++ lines_behind (drop (k + 1) text) (slice_range text (k + 1) (k + 1)) ≡ all
  line_ends known now all feed before is =
      let rest = lines_behind (drop (k + 1) text) [] in
      let here : lines_behind (drop k text) part ≡ part ∷ rest =
      parted ∙ ap (λ b. cond b (part ∷ rest) (lines_behind (drop (k + 1) text) (part ++ get_or text k byte ∷ []))) feed in
      ap (λ l. now ++ lines_behind (drop (k + 1) text) l) nothing
      ∙ (ap (λ n. n ++ rest) is ∙ (append_assoc known (part ∷ []) rest ∙ (ap (λ ls. known ++ ls) (sym here) ∙ before)))

  pub line_goes_on : (known all : List (List ℕ)) → start ≤ k → (get_or text k byte == 10) ≡ false → known ++ lines_behind (drop k text) part ≡ all
      → known ++ lines_behind (drop (k + 1) text) (slice_range text start (k + 1)) ≡ all
  line_goes_on known all begun other before =
      let here : lines_behind (drop k text) part ≡ lines_behind (drop (k + 1) text) (part ++ get_or text k byte ∷ []) =
      parted ∙ ap (λ b. cond b (part ∷ lines_behind (drop (k + 1) text) []) (lines_behind (drop (k + 1) text) (part ++ get_or text k byte ∷ []))) other in
      ap (λ l. known ++ lines_behind (drop (k + 1) text) l) (grown begun) ∙ (ap (λ ls. known ++ ls) (sym here) ∙ before)

some_rest : (line : List ℕ) → 0 < length line → rest_lines line ≡ line ∷ []
some_rest [] some = absurd (omega arith)
some_rest (byte ∷ line) some = refl

none_behind : (bytes line : List ℕ) → length bytes ≡ 0 → lines_behind bytes line ≡ rest_lines line
none_behind [] line none = refl
none_behind (byte ∷ bytes) line none = absurd (omega arith)

no_rest : (line : List ℕ) → length line ≡ 0 → rest_lines line ≡ []
no_rest [] none = refl
no_rest (byte ∷ line) none = absurd (omega arith)

module _ (text : List ℕ) (start k : ℕ) (begun : start ≤ k) (low : k ≤ length text) (end : length text ≤ k) where
  ended : lines_behind (drop k text) (slice_range text start k) ≡ rest_lines (slice_range text start k)
  ended = none_behind (drop k text) (slice_range text start k) (omega (arith, length-drop k text))

  size : length (slice_range text start k) ≡ k - start
  size = length-take-le (k - start) (drop start text) (omega (arith, length-drop start text))

  pub last_line : (known all : List (List ℕ)) → start < k → known ++ lines_behind (drop k text) (slice_range text start k) ≡ all
      → known ++ slice_range text start k ∷ [] ≡ all
  last_line known all some before =
      ap (λ ls. known ++ ls) (sym (ended ∙ some_rest (slice_range text start k) (omega (arith, size)))) ∙ before

  pub no_last_line : (known all : List (List ℕ)) → k ≤ start → known ++ lines_behind (drop k text) (slice_range text start k) ≡ all → known ≡ all
  no_last_line known all none before =
      sym (append-nil known) ∙ (ap (λ ls. known ++ ls) (sym (ended ∙ no_rest (slice_range text start k) (omega (arith, size)))) ∙ before)
