-- Free. What is written of the proper locations, and which function a location is of.
use Rattle.std.proofs.Common.{◌≡◌, ℕ, ◌+◌, ◌<◌, cond, List, [], get_or, All, Option, Some, None, refl, sym, ap, ◌∙◌, arith}
use Rattle.std.specs.List.{filter, flat_map, range_with_len}
use Rattle.std.specs.List.Sorted.{IsStrictlyIncreasing}
use Rattle.std.specs.Map.{keys_of}
use Rattle.std.proofs.lemmas.List.Kept.{AllPairs-from_increasing}
use Rattle.std.proofs.lemmas.Option.{slice_get_within}
use Rattle.asm_state.specs.declared.value.Value.{Value}
use Rattle.asm_state.specs.declared.value.Value.TheVariants.{Undef}
use Rattle.asm_state.specs.Location.{Location, Proper, Stray, function_of}
use Rattle.asm_state.specs.Signature.{Shape, IsSound, functions_of, locations, count_of, location_at, number_at, IsLocationOf, state_of}
use Rattle.asm_state.specs.code.SignatureLaws.{IsHeld}
use Rattle.asm_state.specs.Updates.{UpdateSet, Has, IsConsistent, Range, range_at, IsRangeOf, is_proper}
use Rattle.asm_state.proofs.LocationLemmas.NumberedLocations.{number_laws}
use Rattle.asm_state.proofs.UpdateLemmas.Summaries.{summary_laws}
use Rattle.asm_updates.specs.code.SummaryRanges.{SummaryRanges, range, AreRanges}
use Rattle.asm_updates.specs.code.Stands.{Stands}
use Rattle.asm_run.specs.Trace.{TraceNames, update_text, set_text, content_text}
use Rattle.asm_run.proofs.TextLemmas.SortedLines.{lines_kept, lines_numbered, rise_within, lines_sorted}

-- ---- the functions of locations

held_function : (shape : Shape) (l : Location) → IsHeld shape l → function_of l < functions_of shape
held_function shape (Proper f vs) held = slice_get_within shape.functions f held.0.0 held.0.1
held_function shape (Stray f) held = slice_get_within shape.functions f held.0 held.1

-- a location of a signature is of one of its functions
pub function_inside : (shape : Shape) (l : Location) → IsLocationOf shape l → function_of l < functions_of shape
function_inside shape l here = held_function shape l (number_laws.is_held shape l here)

-- ---- the lines of a set

-- a consistent set has no update of a stray location, so that the line of each location is that of
-- a proper one
proper_line : (names : TraceNames) (U : UpdateSet) (l : Location) → IsConsistent U → cond (is_proper l) (update_text names l (range_at U l)) [] ≡ update_text names l (range_at U l)
proper_line names U (Proper f vs) consistent = refl
proper_line names U (Stray f) consistent = ap (update_text names (Stray f)) (sym (absent (range_at U (Stray f)) (summary_laws.exists U (Stray f))))
  where
    absent : (r : Option Range) → IsRangeOf (Has U (Stray f)) r → r ≡ None
    absent None is = refl
    absent (Some r) is = absurd (consistent.no_stray f r.least is.has_least)

module _ (names : TraceNames) (shape : Shape) where
  -- the lines of the proper locations, in order, are those of the entries that rise
  pub entries_are_set : (summary : SummaryRanges) (U : UpdateSet) → Stands shape summary U → IsConsistent U → AreRanges summary.count summary.ranges → IsStrictlyIncreasing (keys_of summary.ranges)
      → flat_map (λ e. update_text names (location_at shape e.0) (Some (range e.1))) summary.ranges ≡ set_text names (filter is_proper (locations shape)) U
  entries_are_set summary U stands consistent entries rising =
      let line : Location → List ℕ = λ l. update_text names l (range_at U l) in
      let at : ℕ → List ℕ = λ n. line (location_at shape n) in
      let below : All (λ e. e.0 < 0 + count_of shape) summary.ranges = λ k d inside. let known = entries.in_range k d inside in omega (arith, known, stands.has_count) in
      lines_sorted (λ n r. update_text names (location_at shape n) r) at 0 (count_of shape) summary.ranges (λ n. refl)
      (rise_within 0 (0 + count_of shape) summary.ranges (λ k d inside. omega arith) below (AllPairs-from_increasing (keys_of summary.ranges) rising))
      (λ n from inside. ap (update_text names (location_at shape n)) (sym (stands.has_ranges n (omega arith))))
      ∙ sym (lines_numbered (λ l. cond (is_proper l) (line l) []) at (Stray 0) 0 (locations shape)
      (λ n inside. let same : n ≡ 0 + n = omega arith in proper_line names U (location_at shape n) consistent ∙ ap at same))
      ∙ sym (lines_kept is_proper line (locations shape))

  -- ---- the lines of the last state

  content_at : (contents : List Value) (l : Location) (n : ℕ) → number_at shape l ≡ n
      → cond (is_proper l) (content_text names l (state_of shape contents l)) [] ≡ cond (is_proper l) (content_text names l (get_or contents n Undef)) []
  content_at contents (Proper f vs) n same = ap (λ m. content_text names (Proper f vs) (get_or contents m Undef)) same
  content_at contents (Stray f) n same = refl

  -- the lines of the proper locations, in order, are those of the contents by their numbers
  pub contents_are_state : (contents : List Value) → IsSound shape
      → flat_map (λ n. cond (is_proper (location_at shape n)) (content_text names (location_at shape n) (get_or contents n Undef)) []) (range_with_len 0 (count_of shape))
      ≡ flat_map (λ l. content_text names l (state_of shape contents l)) (filter is_proper (locations shape))
  contents_are_state contents sound =
      let line : Location → List ℕ = λ l. content_text names l (state_of shape contents l) in
      let at : ℕ → List ℕ = λ n. cond (is_proper (location_at shape n)) (content_text names (location_at shape n) (get_or contents n Undef)) [] in
      sym (lines_numbered (λ l. cond (is_proper l) (line l) []) at (Stray 0) 0 (locations shape)
      (λ n inside. let same : n ≡ 0 + n = omega arith in content_at contents (location_at shape n) n (number_laws.number shape n sound inside) ∙ ap at same))
      ∙ sym (lines_kept is_proper line (locations shape))
