-- Free. Many lines of a script are too long.
--     said_length   as many lines are said as there are
--     too_many      more lines than a script can have
use Rattle.std.proofs.Common.{◌≡◌, ℕ, suc, refl, ap, ◌+◌, ◌<◌, ◌≤◌, List, [], ◌∷◌, ◌++◌, length, codes, decimal, inr, arith, length-append}
use Rattle.asm_reader.specs.ScriptLines.{Line}
use Rattle.asm_explore.specs.WrittenScripts.{line_text, lines_said, lines_text, path_text}
use Rattle.asm_explore.specs.declared.scripts.script_line.ScriptLine.{ScriptLine}
use Rattle.asm_explore_texts.specs.Comments.{comments}
use Rattle.asm_explore_report.specs.Commented.{HasNoText}
use Rattle.asm_explore_report.specs.Printed.{left_out}

pub said_length : (lines : List ScriptLine) → length (lines_said lines) ≡ length lines
said_length [] = refl
said_length (line ∷ lines) = ap suc (said_length lines)

-- two spaces and a line feed
three : (line : Line) → 3 ≤ length (line_text line)
three line =
    let end = decimal line.choice ++ codes "\n" in
    let path = path_text line.path ++ (codes " " ++ end) in
    omega (arith, length-append (decimal line.step) (codes " " ++ path), length-append (path_text line.path) (codes " " ++ end), length-append (decimal line.choice) (codes "\n"))

all : (lines : List Line) → length lines + length lines + length lines ≤ length (lines_text lines)
all [] = omega arith
all (line ∷ lines) = omega (arith, three line, all lines, length-append (line_text line) (lines_text lines))

pub too_many : (first : List ℕ) (lines : List Line) → 349_525 < length lines → HasNoText first lines
too_many first lines many = inr (omega (arith, many, all lines, length-append (comments (first ∷ left_out (codes "the comments" ∷ []))) (lines_text lines)))
