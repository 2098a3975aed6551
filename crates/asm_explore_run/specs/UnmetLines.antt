-- Definition. The lines of a script that name no choice of a run. The choices that the run makes are
-- given as lines, each with its step and path.
--     is_met made line            a choice is made in the step of the line, at its path; or in any
--                                 step at its path, if the line is for every step
--     is_unmet made bytes         a line of a text says something that isn't met
--     unmet_line n bytes          what is said of such a line, which has the number n
--     unmet_from n made lines     what is said of those of some lines that count from n
--     unmet_lines text made       what is said of those of a text, whose lines count from 1
use Rattle.std.specs.Prelude.{ℕ, suc, Bool, cond, not, List, [], ◌∷◌, ◌++◌, nat_eq, codes, decimal}
use Rattle.std.specs.Cmp.Lexicographic.{pointwise}
use Rattle.std.specs.List.{list_any}
use Rattle.asm_reader.specs.ScriptLines.{Line, SaidLine, ForStep, ForEvery, is_line_of}
use Rattle.asm_reader.specs.ScriptText.{is_skipped, line_of, lines_of, said}

abbrev pub is_met : (made : List Line) → SaidLine → Bool
is_met made (ForStep line) = list_any (is_line_of line.step line.path) made
is_met made (ForEvery line) = list_any (λ choice. pointwise nat_eq choice.path line.path) made

abbrev pub is_unmet : (made : List Line) → List ℕ → Bool
is_unmet made bytes = list_any (λ line. not (is_met made line)) (said (is_skipped bytes) (line_of bytes))

-- ---- what is said of them

abbrev pub unmet_line : (n : ℕ) → List ℕ → List ℕ
unmet_line n bytes = codes "no choose met line " ++ (decimal n ++ (codes " of the script: " ++ bytes))

abbrev pub unmet_from : (n : ℕ) → (made : List Line) → List (List ℕ) → List (List ℕ)
unmet_from n made [] = []
unmet_from n made (bytes ∷ more) = cond (is_unmet made bytes) (unmet_line n bytes ∷ []) [] ++ unmet_from (suc n) made more

abbrev pub unmet_lines : (text : List ℕ) → (made : List Line) → List (List ℕ)
unmet_lines text made = unmet_from 1 made (lines_of text)
