-- Definition. Lines that a script skips.
--     comment line        `# `, the line with a space instead of each line feed, and a line feed
--     comments lines      each of them as a comment
--     lines_of lines      the bytes of the lines
use Rattle.std.specs.Prelude.{ℕ, List, [], ◌∷◌, ◌++◌, map, cond, ◌==◌, codes}
use Rattle.std.specs.List.{flat_map}
use Rattle.std.proofs.Common.{Vec, Global}

abbrev pub shown : ℕ → ℕ
shown byte = cond (byte == 10) 32 byte

abbrev pub in_one_line : List ℕ → List ℕ
in_one_line bytes = map shown bytes

-- without a line there is no blank
abbrev pub comment : List ℕ → List ℕ
comment [] = codes "#\n"
comment (byte ∷ line) = codes "# " ++ (in_one_line (byte ∷ line) ++ 10 ∷ [])

abbrev pub comments : List (List ℕ) → List ℕ
comments lines = flat_map comment lines

abbrev pub lines_of : List (Vec ℕ Global) → List (List ℕ)
lines_of lines = map (λ line. line.items) lines
