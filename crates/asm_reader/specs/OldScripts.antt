-- Definition. Scripts before a line could hold for every step.
--     old_pick s step p           the number for this step and path in a list of lines, and 0 if
--                                 there is none
--     IsOldScript text s          the text had no faulty line, and this is what it said
--     StillIsScript               a text that spelled a script spells one still, which picks the
--                                 same everywhere
use Rattle.std.specs.Prelude.{◌≡◌, ℕ, ◌≤◌, Bool, false, cond, not, ◌&&◌, ◌||◌, ◌==◌, nat_le, List, [], ◌∷◌, ◌++◌, length, Option, Some, None, is_none}
use Rattle.std.specs.List.{list_any, slice_split}
use Rattle.asm_reader.specs.ScriptLines.{Line, Script, is_line_of, pick}
use Rattle.asm_reader.specs.ScriptText.{max_script, lines_of, number_of, path_of, is_skipped, IsScript}

abbrev pub old_pick : List Line → ℕ → List ℕ → ℕ
old_pick [] step p = 0
old_pick (line ∷ lines) step p = cond (is_line_of step p line) line.choice (old_pick lines step p)

abbrev pub old_line_with : Option ℕ → Option (List ℕ) → Option ℕ → Option Line
old_line_with (Some i) (Some p) (Some k) = cond (nat_le 1 i) (Some (record { step = i; path = p; choice = k })) None
old_line_with _ _ _ = None

abbrev pub old_line_of_fields : List (List ℕ) → Option Line
old_line_of_fields (i ∷ p ∷ k ∷ []) = old_line_with (number_of i) (path_of p) (number_of k)
old_line_of_fields _ = None

abbrev pub old_line_of : List ℕ → Option Line
old_line_of bytes = old_line_of_fields (slice_split (λ b. b == 32) bytes)

abbrev pub old_said : Bool → Option Line → List Line
old_said false (Some line) = line ∷ []
old_said _ _ = []

abbrev pub old_script_in : List (List ℕ) → List Line
old_script_in [] = []
old_script_in (bytes ∷ more) = old_said (is_skipped bytes) (old_line_of bytes) ++ old_script_in more

abbrev pub old_says_again : List Line → List Line → Bool
old_says_again before [] = false
old_says_again before (line ∷ more) = list_any (is_line_of line.step line.path) before

-- a line of no form, or one with the step and the path of a line before it
abbrev pub was_faulty : (before : List (List ℕ)) → List ℕ → Bool
was_faulty before bytes =
    (not (is_skipped bytes) && is_none (old_line_of bytes)) || old_says_again (old_script_in before) (old_said (is_skipped bytes) (old_line_of bytes))

pub record IsOldScript (text : List ℕ) (s : List Line) : Type 0 where
  pub fits : length text ≤ max_script
  pub faultless : (before after : List (List ℕ)) (bytes : List ℕ) → lines_of text ≡ before ++ bytes ∷ after → was_faulty before bytes ≡ false
  pub says : s ≡ old_script_in (lines_of text)

abbrev pub StillIsScript : Type 0
StillIsScript =
    (text : List ℕ) (s : List Line) → IsOldScript text s
    → (t : Script) × IsScript text t × ((step : ℕ) (p : List ℕ) → pick t step p ≡ old_pick s step p)
