-- Bridge to the code. Texts that are one after the other, by their spans.
--     texts_in bytes spans     the text at each span
--     AreWithin bytes spans    each span lies within the bytes
--     kept texts n             the text with this number, none after the last
use Rattle.std.specs.Prelude.{ℕ, ◌+◌, ◌≤◌, List, [], map, length, take, drop, slice_index_or}
use Rattle.asm_run.specs.declared.location_texts.TextSpan.{TextSpan}

abbrev pub no_span : TextSpan
no_span = record { start = 0; len = 0 }

abbrev pub span_at : List TextSpan → ℕ → TextSpan
span_at spans n = slice_index_or spans n no_span

abbrev pub text_in : List ℕ → TextSpan → List ℕ
text_in bytes span = take span.len (drop span.start bytes)

abbrev pub texts_in : List ℕ → List TextSpan → List (List ℕ)
texts_in bytes spans = map (text_in bytes) spans

abbrev pub AreWithin : List ℕ → List TextSpan → Type 0
AreWithin bytes spans = (n : ℕ) → (span_at spans n).start + (span_at spans n).len ≤ length bytes

abbrev pub kept : List (List ℕ) → ℕ → List ℕ
kept texts n = slice_index_or texts n []
