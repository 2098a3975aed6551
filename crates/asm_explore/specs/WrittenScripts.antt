-- Definition. The text of a script whose lines are for one step each.
--     line_said line                     what a line says
--     line_text line                     step, path and number, with a space between each two, and
--                                        a line feed at its end
--     lines_text lines                   the texts of the lines, one after the other
--     written zeros lines                the lines, or those of them whose number isn't 0
--     numbers_in lines                   the numbers in lines: of steps, in paths, and of
--                                        candidates
--     IsTextOf lines text                this is their text, it isn't too long, and no number has
--                                        more than nine digits
--     IsTextRefusal numbers text e       why there is no text that has these numbers and bytes
--     AreSteps lines                     steps count from 1
use Rattle.std.specs.Prelude.{◌≡◌, ℕ, ◌<◌, ◌≤◌, Bool, true, not, nat_eq, List, [], ◌∷◌, ◌++◌, length, map, codes, decimal}
use Rattle.std.specs.List.{filter, flat_map}
use Rattle.asm_syntax.specs.declared.input_error.InputError.{InputError}
use Rattle.asm_syntax.specs.declared.input_error.InputError.TheVariants.{Memory, Named}
use Rattle.asm_reader.specs.ScriptLines.{Line}
use Rattle.asm_reader.specs.ScriptText.{max_script}
use Rattle.asm_explore.specs.declared.scripts.script_line.ScriptLine.{ScriptLine}
use Rattle.asm_explore.specs.declared.scripts.script_line.Zeros.{Zeros}
use Rattle.asm_explore.specs.declared.scripts.script_line.Zeros.TheVariants.{Written, LeftOut}
use Rattle.asm_explore.specs.declared.scripts.writing_error.WritingError.{WritingError}
use Rattle.asm_explore.specs.declared.scripts.writing_error.WritingError.TheVariants.{TooLong, LongNumber}
use Rattle.asm_explore.specs.ListElements.{Each, AnyOf}

abbrev pub line_said : ScriptLine → Line
line_said line = record { step = line.step; path = line.path.now; choice = line.number }

abbrev pub lines_said : List ScriptLine → List Line
lines_said lines = map line_said lines

-- ---- the text

-- each after a dot
abbrev pub dotted : List ℕ → List ℕ
dotted [] = []
dotted (k ∷ ks) = codes "." ++ (decimal k ++ dotted ks)

-- `-`, or numbers with a dot between each two
abbrev pub path_text : List ℕ → List ℕ
path_text [] = codes "-"
path_text (k ∷ ks) = decimal k ++ dotted ks

abbrev pub line_text : Line → List ℕ
line_text line = decimal line.step ++ (codes " " ++ (path_text line.path ++ (codes " " ++ (decimal line.choice ++ codes "\n"))))

abbrev pub lines_text : List Line → List ℕ
lines_text lines = flat_map line_text lines

-- the candidate with number 0 is taken without a line
abbrev pub is_written : Zeros → ℕ → Bool
is_written Written number = true
is_written LeftOut number = not (nat_eq number 0)

abbrev pub written : Zeros → List Line → List Line
written zeros lines = filter (λ line. is_written zeros line.choice) lines

-- ---- what can be written

abbrev pub numbers_of_line : Line → List ℕ
numbers_of_line line = line.step ∷ line.choice ∷ line.path

abbrev pub numbers_in : List Line → List ℕ
numbers_in lines = flat_map numbers_of_line lines

-- nine digits at most, and more
abbrev pub IsShort : ℕ → Type 0
IsShort k = k < 1_000_000_000

abbrev pub IsLong : ℕ → Type 0
IsLong k = 1_000_000_000 ≤ k

abbrev pub AreShort : List ℕ → Type 0
AreShort numbers = Each IsShort numbers

abbrev pub AnyIsLong : List ℕ → Type 0
AnyIsLong numbers = AnyOf IsLong numbers

pub record IsTextOf (lines : List Line) (text : List ℕ) : Type 0 where
  pub is : text ≡ lines_text lines
  pub fits : length text ≤ max_script
  pub short : AreShort (numbers_in lines)

abbrev pub IsTextRefusal : (numbers text : List ℕ) → InputError WritingError → Type 0
IsTextRefusal numbers text Memory = Unit {0}
IsTextRefusal numbers text (Named TooLong) = max_script < length text
IsTextRefusal numbers text (Named LongNumber) = AnyIsLong numbers

abbrev pub AreSteps : List Line → Type 0
AreSteps lines = Each (λ line. 1 ≤ line.step) lines
