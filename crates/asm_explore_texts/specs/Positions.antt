-- Definition. Where an offset is in a text, and what stands there.
--     line_number, column_number       as a user counts, from 1
--     after_feeds, line_start          behind so many line feeds, or the end of the text; where the
--                                      line with this number begins
--     column_in_text                   the column, if the line is UTF-8 up to the offset
--     before_in_line, from_in_line     the line, before the offset and from it on
--     characters                       what counts as a column
--     position_text                    line and column, in words
--     name_at                          the letters, digits and `_` from an offset on
--     is_name_at, IsNameAt             they are a whole name of the text, or a reserved word: a letter
--                                      or `_` stands at the offset, and none of them before it
--     MayBePosition text place         this is the line and column of such a name, with a comma behind
--                                      it, or empty
use Rattle.std.specs.Prelude.{◌≡◌, ◌⊎◌, ℕ, zero, suc, ◌+◌, ◌-◌, ◌==◌, Bool, cond, false, not, ◌&&◌, IsTrue, Option, None, Some, List, [], ◌∷◌, ◌++◌, take, drop, length, count_by, slice_get, take_while, unwrap_or, codes, decimal}
use Rattle.std.specs.Char.{len_utf8}
use Rattle.std.specs.List.{after_last, before_first}
use Rattle.std.specs.Option.{option_map_or}
use Rattle.std.specs.Str.{chars}
use Rattle.std.specs.Str.Lossy.{utf8_valid_len}
use Rattle.asm_syntax.specs.Tokens.{is_letter, is_letter_or_digit}

-- ---- lines

abbrev pub is_line_feed : ℕ → Bool
is_line_feed b = b == 10

-- what is in the line of the offset before it, and from it on; the line feed that ends it is no
-- part of a line
abbrev pub before_in_line : (text : List ℕ) → ℕ → List ℕ
before_in_line text at = after_last is_line_feed (take at text)

abbrev pub from_in_line : (text : List ℕ) → ℕ → List ℕ
from_in_line text at = before_first is_line_feed (drop at text)

-- one more than the number of line feeds before the offset
abbrev pub line_number : (text : List ℕ) → ℕ → ℕ
line_number text at = count_by is_line_feed (take at text) + 1

abbrev pub after_feeds : (feeds : ℕ) → List ℕ → ℕ
after_feeds zero text = 0
after_feeds (suc feeds) [] = 0
after_feeds (suc feeds) (b ∷ text) = suc (after_feeds (cond (is_line_feed b) feeds (suc feeds)) text)

-- lines count from 1
abbrev pub line_start : (text : List ℕ) → (number : ℕ) → ℕ
line_start text number = after_feeds (number - 1) text

-- ---- characters

-- the character that the bytes begin with, which has four of them at most, or None if they begin
-- with none
abbrev pub first_character : List ℕ → Option ℕ
first_character bs = let front = take 4 bs in slice_get (chars (take (utf8_valid_len front) front)) 0

-- how many bytes it has; a byte that belongs to no character stands alone
abbrev pub length_of : Option ℕ → ℕ
length_of None = 1
length_of (Some c) = len_utf8 c

-- the characters after n bytes
abbrev pub characters_behind : ℕ → List ℕ → List ℕ
characters_behind n [] = []
characters_behind (suc n) (b ∷ bs) = characters_behind n bs
characters_behind zero (b ∷ bs) = let first = first_character (b ∷ bs) in unwrap_or first 63 ∷ characters_behind (length_of first - 1) bs

-- The characters of bytes; a byte that belongs to none counts as one.
abbrev pub characters : List ℕ → List ℕ
characters bs = characters_behind 0 bs

-- one more than the number of characters in the line before the offset
abbrev pub column_number : (text : List ℕ) → ℕ → ℕ
column_number text at = length (characters (before_in_line text at)) + 1

-- the same, if the bytes before the offset are UTF-8: by the characters that they spell
abbrev pub column_in_text : (text : List ℕ) → ℕ → ℕ
column_in_text text at = length (chars (before_in_line text at)) + 1

-- ---- in words

abbrev pub position_text : (text : List ℕ) → ℕ → List ℕ
position_text text at = codes "line " ++ (decimal (line_number text at) ++ (codes ", column " ++ decimal (column_number text at)))

-- ---- names

-- the letters, digits and `_` from the offset on
abbrev pub name_at : (text : List ℕ) → ℕ → List ℕ
name_at text at = take_while is_letter_or_digit (drop at text)

-- whether the byte at the offset is one of these; behind the text there is none
abbrev pub has_at : (ℕ → Bool) → (text : List ℕ) → ℕ → Bool
has_at p text at = option_map_or p (slice_get text at) false

-- whether they are a whole name, or a reserved word
abbrev pub is_name_at : (text : List ℕ) → ℕ → Bool
is_name_at text zero = has_at is_letter text zero
is_name_at text (suc before) = has_at is_letter text (suc before) && not (has_at is_letter_or_digit text before)

abbrev pub IsNameAt : (text : List ℕ) → ℕ → Type 0
IsNameAt text at = IsTrue (is_name_at text at)

abbrev pub MayBePosition : (text place : List ℕ) → Type 0
MayBePosition text place = (place ≡ []) ⊎ ((at : ℕ) × IsNameAt text at × (place ≡ position_text text at ++ codes ", "))
