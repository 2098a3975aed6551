-- Bridge to the code. What is written of the entries of a set, and from which texts.
--     AreTextsOf s texts     texts are those of the locations with their numbers, if there are any
--     entry_line             the line of an entry
--     entries_text           the lines of the entries of a set
use Rattle.std.specs.Prelude.{◌≡◌, ◌⊎◌, ℕ, List, [], Some}
use Rattle.std.specs.List.{flat_map}
use Rattle.asm_state.specs.declared.value.Value.{Value}
use Rattle.asm_state.specs.Signature.{location_at}
use Rattle.asm_syntax.specs.SourceTree.{Spec}
use Rattle.asm_check.specs.Shapes.{shape_of}
use Rattle.asm_updates.specs.code.SummaryRanges.{NamedRanges, range}
use Rattle.asm_run.specs.Trace.{update_text}
use Rattle.asm_run.specs.Written.{names_in, text_of_location}
use Rattle.asm_run.specs.code.KeptTexts.{kept}

abbrev pub AreTextsOf : Spec → List (List ℕ) → Type 0
AreTextsOf s texts = (n : ℕ) → (kept texts n ≡ []) ⊎ (kept texts n ≡ text_of_location s n)

-- an entry of a set, with the number of its location
abbrev pub entry_line : Spec → ℕ × (Value × Value) → List ℕ
entry_line s e = update_text (names_in s) (location_at (shape_of s) e.0) (Some (range e.1))

abbrev pub entries_text : Spec → NamedRanges → List ℕ
entries_text s es = flat_map (entry_line s) es
