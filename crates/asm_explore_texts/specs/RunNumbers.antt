-- Definition. How many steps and turns a script says that its run has. A report says so in the call
-- of `asm` that makes its run, behind `# `; the last such line of a script counts.
--     behind front bytes       what is behind the front, if the bytes begin with it
--     first_word bytes         what is before the first blank
--     number_of least word     a number of one to seven digits, from the least to 1,000,000
--     turns_in rest            the number behind ` --script THIS --turns `, or 1,000 if there is none
--     numbers_in_line line     behind `# asm --steps ` stands a number, and behind that a blank
--     last_numbers lines       those of the last line that has some
--     numbers_said script      those of the lines of a script
--     with_numbers settings script
--                              the settings with the numbers that the script says, unless the words
--                              say how many steps; the turns that they say stay
use Rattle.std.specs.Prelude.{ℕ, Bool, ◌==◌, ◌&&◌, cond, nat_le, List, [], ◌∷◌, length, take, drop, Option, Some, None, unwrap_or, option_and_then, codes}
use Rattle.std.specs.Char.{is_ascii_digit}
use Rattle.std.specs.List.{before_first, list_all}
use Rattle.std.specs.Option.{option_or}
use Rattle.std.specs.Str.{bytes_eq}
use Rattle.asm_syntax.specs.Tokens.{value_of}
use Rattle.asm_reader.specs.ScriptText.{lines_of}
use Rattle.asm_explore_words.specs.declared.settings.RunSettings.{RunSettings}
use Rattle.asm_explore_texts.specs.declared.run_numbers.RunNumbers.{RunNumbers}

abbrev pub behind : (front bytes : List ℕ) → Option (List ℕ)
behind front bytes = cond (bytes_eq (take (length front) bytes) front) (Some (drop (length front) bytes)) None

abbrev pub is_blank : ℕ → Bool
is_blank byte = byte == 32

abbrev pub first_word : List ℕ → List ℕ
first_word bytes = before_first is_blank bytes

abbrev pub behind_word : List ℕ → List ℕ
behind_word bytes = drop (length (first_word bytes)) bytes

-- ---- numbers

abbrev pub value_in : (word : List ℕ) → Option ℕ
value_in word = cond (nat_le 1 (length word) && nat_le (length word) 7 && list_all is_ascii_digit word) (Some (value_of 0 word)) None

abbrev pub value_from : (least : ℕ) → (value : ℕ) → Option ℕ
value_from least value = cond (nat_le least value && nat_le value 1_000_000) (Some value) None

abbrev pub number_of : (least : ℕ) → (word : List ℕ) → Option ℕ
number_of least word = option_and_then (value_from least) (value_in word)

abbrev pub turns_named : (rest : List ℕ) → Option ℕ
turns_named rest = option_and_then (λ bytes. number_of 1 (first_word bytes)) (behind (codes " --script THIS --turns ") rest)

abbrev pub turns_in : (rest : List ℕ) → ℕ
turns_in rest = unwrap_or (turns_named rest) 1000

-- ---- one line

-- where a word doesn't end the line, a blank is behind it
abbrev pub numbers_with : (steps : ℕ) → (rest : List ℕ) → Option RunNumbers
numbers_with steps [] = None
numbers_with steps (blank ∷ rest) = Some (record { steps = steps; turns = turns_in (blank ∷ rest) })

abbrev pub numbers_behind : (bytes : List ℕ) → Option RunNumbers
numbers_behind bytes = option_and_then (λ steps. numbers_with steps (behind_word bytes)) (number_of 0 (first_word bytes))

abbrev pub numbers_in_line : (line : List ℕ) → Option RunNumbers
numbers_in_line line = option_and_then numbers_behind (behind (codes "# asm --steps ") line)

-- ---- all lines

abbrev pub last_numbers : (lines : List (List ℕ)) → Option RunNumbers
last_numbers [] = None
last_numbers (line ∷ lines) = option_or (last_numbers lines) (numbers_in_line line)

abbrev pub numbers_said : (script : List ℕ) → Option RunNumbers
numbers_said script = last_numbers (lines_of script)

-- ---- settings

abbrev pub with_found : RunSettings → Option RunNumbers → RunSettings
with_found settings None = settings
with_found settings (Some numbers) =
    record settings { steps = numbers.steps; turns = cond settings.turns_said settings.turns numbers.turns }

abbrev pub with_numbers : RunSettings → (script : List ℕ) → RunSettings
with_numbers settings script = cond settings.steps_said settings (with_found settings (numbers_said script))
