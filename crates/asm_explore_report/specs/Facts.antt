-- Definition. Lines of a report behind the first.
--     front_of text               the text, or 200 bytes of a longer one
--     condition_line name text    a condition with its name
--     always_lines texts          the conditions that are to be true in each state, by their numbers
--     looked_for conditions       which faults are looked for, if so many conditions are to be true
--                                 in each state
--     deadlock_words condition    a deadlock is one of them, if there is a condition for quiet
--                                 states
use Rattle.std.specs.Prelude.{ℕ, zero, suc, List, [], ◌∷◌, ◌++◌, cond, length, Option, Some, None, nat_lt, take, codes, decimal}

abbrev pub front_of : List ℕ → List ℕ
front_of text = take 200 text ++ cond (nat_lt 200 (length text)) (codes " ..") []

abbrev pub condition_line : (name text : List ℕ) → List ℕ
condition_line name text = name ++ (codes ": " ++ front_of text)

-- the conditions from this number on
abbrev pub lines_from : ℕ → List (List ℕ) → List (List ℕ)
lines_from number [] = []
lines_from number (text ∷ texts) = condition_line (codes "condition " ++ decimal number) text ∷ lines_from (suc number) texts

abbrev pub always_lines : List (List ℕ) → List (List ℕ)
always_lines texts = lines_from 1 texts

-- so many conditions, from this number on
abbrev pub numbered_from : (number count : ℕ) → List ℕ
numbered_from number zero = []
numbered_from number (suc count) = codes ", condition " ++ (decimal number ++ numbered_from (suc number) count)

abbrev pub looked_for : (conditions : ℕ) → List ℕ
looked_for conditions = codes "looked for: clash, outside, exhausted" ++ numbered_from 1 conditions

abbrev pub deadlock_words : Option (List ℕ) → List ℕ
deadlock_words None = []
deadlock_words (Some text) = codes ", deadlock"
