-- Definition. What is written of a specification's locations.
--     names_in s, locations_in s     what its functions and elements are called; its proper
--                                    locations, in order
--     text_of_location s n           the text of the location with this number
--     step_line                      the first line of a step
--     assigned_text                  what follows the location in the line of an update
--     contents_text                  the last state
use Rattle.std.specs.Prelude.{ℕ, cond, List, [], ◌++◌, map, filter, slice_index_or, codes, decimal}
use Rattle.std.specs.List.{flat_map, range_with_len}
use Rattle.asm_state.specs.declared.value.Value.{Value}
use Rattle.asm_state.specs.declared.value.Value.TheVariants.{Undef}
use Rattle.asm_state.specs.Location.{Location}
use Rattle.asm_state.specs.Signature.{locations, location_at, count_of}
use Rattle.asm_state.specs.Updates.{is_proper}
use Rattle.asm_syntax.specs.SourceTree.{Spec}
use Rattle.asm_check.specs.Names.{Declaration}
use Rattle.asm_check.specs.Numbers.{functions_of, elements_of}
use Rattle.asm_check.specs.Shapes.{shape_of}
use Rattle.asm_run.specs.Trace.{TraceNames, line_end, location_text, value_text, content_text}

abbrev pub texts_of : List Declaration → List (List ℕ)
texts_of ds = map (λ (d : Declaration). d.name.text) ds

abbrev pub names_in : Spec → TraceNames
names_in s = record { functions = texts_of (functions_of s); elements = texts_of (elements_of s) }

abbrev pub locations_in : Spec → List Location
locations_in s = filter is_proper (locations (shape_of s))

abbrev pub text_of_location : Spec → ℕ → List ℕ
text_of_location s n = location_text (names_in s) (location_at (shape_of s) n)

abbrev pub assigned_text : Spec → Value → List ℕ
assigned_text s v = codes " := " ++ (value_text (names_in s).elements v ++ line_end)

abbrev pub step_line : (step instances : ℕ) → List ℕ
step_line step instances = codes "step " ++ (decimal step ++ (codes " instances " ++ (decimal instances ++ line_end)))

-- the content of the location with this number, if it is proper
abbrev pub content_line : Spec → List Value → ℕ → List ℕ
content_line s contents n =
    cond (is_proper (location_at (shape_of s) n)) (content_text (names_in s) (location_at (shape_of s) n) (slice_index_or contents n Undef)) []

abbrev pub contents_text : Spec → List Value → List ℕ
contents_text s contents = codes "state" ++ (line_end ++ flat_map (content_line s contents) (range_with_len 0 (count_of (shape_of s))))
