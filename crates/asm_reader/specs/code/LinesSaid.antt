-- Bridge to the code. What is read from lines of a script.
--     then_line script line     the script with one more line, after those that it has
--     bytes_in lines            the number of bytes that the lines have, each with one at its end
use Rattle.std.specs.Prelude.{ℕ, ◌+◌, List, [], ◌∷◌, ◌++◌, length}
use Rattle.asm_reader.specs.ScriptLines.{SaidLine, ForStep, ForEvery, Script}

abbrev pub then_line : Script → SaidLine → Script
then_line script (ForStep line) = record { exact = script.exact ++ line ∷ []; every = script.every }
then_line script (ForEvery line) = record { exact = script.exact; every = script.every ++ line ∷ [] }

abbrev pub bytes_in : List (List ℕ) → ℕ
bytes_in [] = 0
bytes_in (line ∷ lines) = length line + 1 + bytes_in lines
