-- Free. Which locations nodes show, by their numbers.
--     mark_at          the mark of a location says whether it is shown
--     marks_count      there is one for each
--     line_of, no_line    the lines of a location, by its mark
use Rattle.std.proofs.Common.{◌≡◌, ◌<◌, ◌∙◌, ℕ, Bool, true, false, List, [], ap, arith, get_or, length}
use Rattle.std.specs.Prelude.{cond}
use Rattle.std.proofs.lemmas.List.FromFn.{get_or-map-range_with_len, length-map-range_with_len}
use Rattle.asm_state.specs.Location.{Location, State}
use Rattle.asm_state.specs.Signature.{count_of}
use Rattle.asm_syntax.specs.SourceTree.{Spec}
use Rattle.asm_check.specs.Shapes.{shape_of}
use Rattle.asm_explore_table.specs.Tables.{numbered}
use Rattle.asm_graph.specs.Labels.{content_lines, shown_by, shown_lines}
use Rattle.asm_graph.specs.code.ShownLocations.{shown_marks}

module _ (s : Spec) (names : List (List ℕ)) where
  pub marks_count : (marks : List Bool) → marks ≡ shown_marks s names → length marks ≡ count_of (shape_of s)
  marks_count marks are = ap length are ∙ length-map-range_with_len (λ m. shown_by s names (numbered s m)) 0 (count_of (shape_of s))

  pub mark_at : (marks : List Bool) (n : ℕ) (d : Bool) → marks ≡ shown_marks s names → n < count_of (shape_of s) → get_or marks n d ≡ shown_by s names (numbered s n)
  mark_at marks n d are low = ap (λ ms. get_or ms n d) are ∙ get_or-map-range_with_len (λ m. shown_by s names (numbered s m)) 0 (count_of (shape_of s)) n n d low (omega arith)

  pub line_of : (A : State) (l : Location) (line : List (List ℕ)) → shown_by s names l ≡ true → content_lines s l (A l) ≡ line → shown_lines s names A l ≡ line
  line_of A l line shown is = ap (λ b. cond b (content_lines s l (A l)) []) shown ∙ is

  pub no_line : (A : State) (l : Location) → shown_by s names l ≡ false → shown_lines s names A l ≡ []
  no_line A l hidden = ap (λ b. cond b (content_lines s l (A l)) []) hidden
