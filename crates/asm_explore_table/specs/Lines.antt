-- Definition. Lines of texts that begin at columns of their own.
--     blanks n                  so many blanks
--     placed line start text    the line and the text behind it, which begins at this column; without
--                               a text the line alone
--     aligned width text        the text behind as many blanks as it takes for this width
use Rattle.std.specs.Prelude.{ℕ, ◌-◌, List, [], ◌∷◌, ◌++◌, length}
use Rattle.std.specs.List.{repeat}

abbrev pub blanks : ℕ → List ℕ
blanks n = repeat n (32 ∷ [])

abbrev pub placed : (line : List ℕ) → (start : ℕ) → (text : List ℕ) → List ℕ
placed line start [] = line
placed line start (b ∷ text) = line ++ (blanks (start - length line) ++ b ∷ text)

abbrev pub aligned : (width : ℕ) → (text : List ℕ) → List ℕ
aligned width text = blanks (width - length text) ++ text
