-- Bridge to the code. Which locations nodes show, as the code keeps it.
--     shown_marks s names     of each location whether it is shown, in their order
--     IsOfNames texts         what nodes are written by has the marks for its names
use Rattle.std.specs.Prelude.{◌≡◌, ℕ, Bool, List, map}
use Rattle.std.specs.List.{range_with_len}
use Rattle.asm_state.specs.Signature.{count_of}
use Rattle.asm_syntax.specs.SourceTree.{Spec}
use Rattle.asm_syntax.specs.code.Views.{spec_of}
use Rattle.asm_check.specs.Shapes.{shape_of}
use Rattle.asm_explore_table.specs.Tables.{numbered}
use Rattle.asm_explore_table.specs.code.StepsMade.{names_said}
use Rattle.asm_graph.specs.Labels.{shown_by}
use Rattle.asm_graph.specs.declared.labels.NodeTexts.{NodeTexts}

abbrev pub shown_marks : Spec → (names : List (List ℕ)) → List Bool
shown_marks s names = map (λ n. shown_by s names (numbered s n)) (range_with_len 0 (count_of (shape_of s)))

abbrev pub IsOfNames : NodeTexts → Type 0
IsOfNames texts = texts.shown.now ≡ shown_marks (spec_of texts.checked.now.spec) (names_said texts.names.now)
