use Rattle.std.proofs.Common.{◌≡◌, ◌-◌, ◌≤◌, ◌∷◌, ◌++◌, [], ℕ, List, length, take}
use Rattle.std.specs.Prelude.{◌⊎◌}
use Rattle.asm_syntax.specs.code.Views.{spec_of}
use Rattle.asm_reader.specs.ScriptText.{max_script}
use Rattle.asm_run.specs.Written.{names_in}
use Rattle.asm_explore_texts.specs.Comments.{comments}
use Rattle.asm_explore_run.specs.ClashText.{AreLinesOf, more}
use Rattle.asm_explore_run.proofs.clash_text.clash_text.Given as goal

abbrev pub invariant-loop-k : goal.invariant-loop-k
invariant-loop-k l =
    (lines : List (List ℕ)) × (length lines ≡ l.k) × (l.shown.items ≡ comments (l.first ∷ lines))
    × ((length (l.shown.items ++ comments (more (l.count - l.k))) ≤ max_script) ⊎ (lines ≡ []))
    × AreLinesOf l.text (names_in (spec_of l.checked.spec)) l.end (take l.k l.assignments) lines
