-- Free. What a step writes, and where its fault is.
use Rattle.std.proofs.Common.{◌≡◌, ℕ, ◌<◌, List, ◌++◌, length, append_assoc, ap, subst, ◌∙◌, arith}
use Rattle.std.specs.Prelude.{codes, min}
use Rattle.std.specs.List.Sorted.{IsStrictlyIncreasing}
use Rattle.std.specs.Map.{keys_of}
use Rattle.asm_state.specs.declared.value.Value.{Value}
use Rattle.asm_state.specs.Location.{function_of}
use Rattle.asm_state.specs.Signature.{Shape, count_of, location_at, state_of}
use Rattle.asm_state.specs.Updates.{UpdateSet, IsConsistent, together, none}
use Rattle.asm_state.proofs.UpdateLemmas.UnionsAndMerges.{union_laws}
use Rattle.asm_state.proofs.LocationLemmas.NumberedLocations.{number_laws}
use Rattle.asm_syntax.specs.SourceTree.{Spec}
use Rattle.asm_check.specs.Faults.{IsWellFormed}
use Rattle.asm_check.specs.Numbers.{functions_of}
use Rattle.asm_check.specs.Shapes.{shape_of}
use Rattle.asm_check.proofs.NumberLemmas.SignatureNumbers.{signature_numbers}
use Rattle.asm_check.proofs.NumberLemmas.SoundShapes.{shape_is_sound}
use Rattle.asm_updates.specs.code.SummaryRanges.{SummaryRanges, AreRanges}
use Rattle.asm_updates.specs.code.Stands.{Stands}
use Rattle.asm_eval.specs.code.FormedOutcomes.{greatest_count}
use Rattle.asm_run.specs.Trace.{line_end, set_text, state_text, step_text}
use Rattle.asm_run.specs.Written.{names_in, locations_in, step_line, contents_text}
use Rattle.asm_run.specs.code.WrittenEntries.{entries_text}
use Rattle.asm_run.proofs.ProperLocations.{function_inside, entries_are_set, contents_are_state}

-- a set that is formed from nothing
pub stands_alone : (shape : Shape) (summary : SummaryRanges) (U : UpdateSet) → Stands shape summary (together none U) → Stands shape summary U
stands_alone shape summary U h = subst (λ V. Stands shape summary V) (union_laws.unit U) h

-- the function of each location is one of the specification
pub function_below : (s : Spec) (n : ℕ) → IsWellFormed s → n < count_of (shape_of s) → function_of (location_at (shape_of s) n) < length (functions_of s)
function_below s n good below =
    let inside = function_inside (shape_of s) (location_at (shape_of s) n) (number_laws.is_location (shape_of s) n below) in
    omega (arith, inside, (signature_numbers s good).count_of_functions)

-- entries that rise are the lines of the set
pub set_written : (s : Spec) (summary : SummaryRanges) (U : UpdateSet) → IsWellFormed s → Stands (shape_of s) summary U → IsConsistent U → AreRanges summary.count summary.ranges
    → IsStrictlyIncreasing (keys_of summary.ranges) → entries_text s summary.ranges ≡ set_text (names_in s) (locations_in s) U
set_written s summary U good stands consistent entries rising = entries_are_set (names_in s) (shape_of s) summary U stands consistent entries rising

-- the line of a step, in which its number of instances is cut off
pub step_written : (s : Spec) (summary : SummaryRanges) (U : UpdateSet) (step instances all : ℕ) → instances ≡ min all greatest_count → entries_text s summary.ranges ≡ set_text (names_in s) (locations_in s) U
    → step_line step instances ++ entries_text s summary.ranges ≡ step_text (names_in s) (locations_in s) step (record { set = U; instances = all })
step_written s summary U step instances all cut e =
    ap (λ n. step_line step n ++ entries_text s summary.ranges) cut ∙ ap (λ w. step_line step (min all greatest_count) ++ w) e ∙ simp append_assoc

-- the contents of the proper locations are the lines of the state
pub state_written : (s : Spec) (contents : List Value) → IsWellFormed s → length contents ≡ count_of (shape_of s) → contents_text s contents ≡ state_text (names_in s) (locations_in s) (state_of (shape_of s) contents)
state_written s contents good whole = ap (λ w. codes "state" ++ (line_end ++ w)) (contents_are_state (names_in s) (shape_of s) contents (shape_is_sound s good))
