-- Definition. The texts of scripts.
--     lines_of text                 the lines, each without its end
--     line_of bytes                 what a line says, if it has the form: step or `*`, path and
--                                   number
--     line_said read                what a line that was read says
--     said_in lines                 what the lines say, in their order
--     script_in lines               the script of that
--     IsScript text script          the text has no faulty line, and this is what it says
--     IsScriptRefusal text e        why a text is no script
use Rattle.std.specs.Prelude.{◌≡◌, ℕ, suc, ◌≤◌, ◌<◌, Bool, true, false, cond, not, ◌&&◌, ◌||◌, ◌==◌, nat_le, List, [], ◌∷◌, ◌++◌, length, map, Option, Some, None, is_none, codes}
use Rattle.std.specs.Char.{is_ascii_digit}
use Rattle.std.specs.List.{list_all, list_any, slice_split}
use Rattle.std.specs.Str.{bytes_eq}
use Rattle.std.specs.Str.Lines.{strip_carriage_return}
use Rattle.asm_syntax.specs.Tokens.{max_length}
use Rattle.asm_syntax.specs.Tokens.{value_of}
use Rattle.asm_reader.specs.ScriptLines.{SaidLine, ForStep, ForEvery, Script, script_of, is_line_of, is_line_at}
use Rattle.asm_reader.specs.declared.script.ReadLine.{ReadLine}
use Rattle.asm_reader.specs.declared.script.When.{When}
use Rattle.asm_reader.specs.declared.script.When.TheVariants.{Step, EveryStep}
use Rattle.asm_reader.specs.declared.script_error.ScriptError.{ScriptError}
use Rattle.asm_reader.specs.declared.script_error.ScriptError.TheVariants.{BadLine, Repeated, TooLong}

abbrev pub max_script : ℕ
max_script = max_length

-- between line feeds; a carriage return before one, or before the end, is dropped
abbrev pub lines_of : List ℕ → List (List ℕ)
lines_of text = map strip_carriage_return (slice_split (λ b. b == 10) text)

-- ---- one line

-- one to nine digits
abbrev pub number_of : List ℕ → Option ℕ
number_of bytes = cond (nat_le 1 (length bytes) && nat_le (length bytes) 9 && list_all is_ascii_digit bytes) (Some (value_of 0 bytes)) None

abbrev pub number_then : Option ℕ → Option (List ℕ) → Option (List ℕ)
number_then (Some k) (Some ks) = Some (k ∷ ks)
number_then _ _ = None

abbrev pub numbers_of : List (List ℕ) → Option (List ℕ)
numbers_of [] = Some []
numbers_of (bytes ∷ more) = number_then (number_of bytes) (numbers_of more)

-- `-`, or numbers with a dot between each two
abbrev pub path_of : List ℕ → Option (List ℕ)
path_of bytes = cond (bytes_eq bytes (codes "-")) (Some []) (numbers_of (slice_split (λ b. b == 46) bytes))

-- steps count from 1
abbrev pub step_with : Option ℕ → Option When
step_with None = None
step_with (Some i) = cond (nat_le 1 i) (Some (Step i)) None

-- `*`, or a step
abbrev pub when_of : List ℕ → Option When
when_of bytes = cond (bytes_eq bytes (codes "*")) (Some EveryStep) (step_with (number_of bytes))

abbrev pub line_for : When → List ℕ → ℕ → SaidLine
line_for (Step i) p k = ForStep (record { step = i; path = p; choice = k })
line_for EveryStep p k = ForEvery (record { path = p; choice = k })

-- of a line that was read
abbrev pub line_said : ReadLine → SaidLine
line_said read = line_for read.when read.path.items read.number

abbrev pub line_with : Option When → Option (List ℕ) → Option ℕ → Option SaidLine
line_with (Some w) (Some p) (Some k) = Some (line_for w p k)
line_with _ _ _ = None

abbrev pub line_of_fields : List (List ℕ) → Option SaidLine
line_of_fields (w ∷ p ∷ k ∷ []) = line_with (when_of w) (path_of p) (number_of k)
line_of_fields _ = None

-- three fields with a space between each two
abbrev pub line_of : List ℕ → Option SaidLine
line_of bytes = line_of_fields (slice_split (λ b. b == 32) bytes)

-- no byte, or a comment
abbrev pub is_skipped : List ℕ → Bool
is_skipped [] = true
is_skipped (b ∷ bytes) = b == 35

-- ---- all lines

abbrev pub said : Bool → Option SaidLine → List SaidLine
said false (Some line) = line ∷ []
said _ _ = []

abbrev pub said_in : List (List ℕ) → List SaidLine
said_in [] = []
said_in (bytes ∷ more) = said (is_skipped bytes) (line_of bytes) ++ said_in more

abbrev pub script_in : List (List ℕ) → Script
script_in lines = script_of (said_in lines)

-- a line of no form
abbrev pub is_bad : List ℕ → Bool
is_bad bytes = not (is_skipped bytes) && is_none (line_of bytes)

-- The script has a line for the step and the path of this one; or one for every step with its
-- path, if this is one for every step.
abbrev pub has_line_of : Script → SaidLine → Bool
has_line_of script (ForStep line) = list_any (is_line_of line.step line.path) script.exact
has_line_of script (ForEvery line) = list_any (is_line_at line.path) script.every

-- what is said when a line before it says it of the same
abbrev pub says_again : Script → List SaidLine → Bool
says_again before [] = false
says_again before (line ∷ more) = has_line_of before line

abbrev pub is_repeated : (before : List (List ℕ)) → List ℕ → Bool
is_repeated before bytes = says_again (script_in before) (said (is_skipped bytes) (line_of bytes))

-- No line is bad, and none repeats one before it.
abbrev pub AreFaultless : List (List ℕ) → Type 0
AreFaultless lines = (before after : List (List ℕ)) (bytes : List ℕ) → lines ≡ before ++ bytes ∷ after → is_bad bytes || is_repeated before bytes ≡ false

pub record IsScript (text : List ℕ) (script : Script) : Type 0 where
  pub fits : length text ≤ max_script
  pub faultless : AreFaultless (lines_of text)
  pub says : script ≡ script_in (lines_of text)

-- Line number n is the first that has a fault, and it has this one. Lines count from 1.
pub record IsFirstFaulty (has_fault : (before : List (List ℕ)) → List ℕ → Bool) (lines : List (List ℕ)) (n : ℕ) : Type 0 where
  pub before : List (List ℕ)
  pub bytes : List ℕ
  pub after : List (List ℕ)
  pub parts : lines ≡ before ++ bytes ∷ after
  pub number : n ≡ suc (length before)
  pub fault : has_fault before bytes ≡ true
  pub first : AreFaultless before

-- what is wrong with the lines
abbrev pub IsRefusalOfLines : List (List ℕ) → ScriptError → Type 0
IsRefusalOfLines lines (BadLine n) = IsFirstFaulty (λ before. is_bad) lines n
IsRefusalOfLines lines (Repeated n) = IsFirstFaulty is_repeated lines n
IsRefusalOfLines lines TooLong = ⊥

-- a text that is too long isn't looked at
abbrev pub IsScriptRefusal : List ℕ → ScriptError → Type 0
IsScriptRefusal text TooLong = max_script < length text
IsScriptRefusal text (BadLine n) = (length text ≤ max_script) × IsRefusalOfLines (lines_of text) (BadLine n)
IsScriptRefusal text (Repeated n) = (length text ≤ max_script) × IsRefusalOfLines (lines_of text) (Repeated n)
