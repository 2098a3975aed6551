-- Definition. What the tokens of a text are, and what its first fault is. A text is its bytes.
use Rattle.std.specs.Prelude.{◌≡◌, ◌≢◌, ℕ, ◌+◌, ◌-◌, ◌*◌, ◌<◌, ◌≤◌, ◌⊎◌, Bool, ◌||◌, IsTrue, nat_eq, unsigned_abs, List, [], ◌∷◌, ◌++◌, length, All, fold, flat_map, codes}
use Rattle.std.specs.Char.{is_ascii_digit, is_ascii_alphabetic}
use Rattle.asm_state.specs.Bounds.{greatest_number}
use Rattle.asm_syntax.specs.declared.token.Kind.{Kind}
use Rattle.asm_syntax.specs.declared.token.Kind.TheVariants.{Name, Number, Symbol, Keyword}
use Rattle.asm_syntax.specs.declared.token.Keyword as word
use Rattle.asm_syntax.specs.declared.token.Token.{Token}
use Rattle.asm_syntax.specs.declared.error.LexError.{LexError}
use Rattle.asm_syntax.specs.declared.error.LexError.TheVariants.{TooLong, BadByte, OpenComment, BadNumber}
use Rattle.asm_syntax.specs.Spellings.{symbol_text, word_text}

-- how many bytes a text has at most, and a script
abbrev pub max_length : ℕ
max_length = 1_048_576

-- the greatest number of a text
abbrev pub max_number : ℕ
max_number = unsigned_abs greatest_number

-- ---- numbers

-- the value of digits after others of this value
abbrev pub value_of : ℕ → List ℕ → ℕ
value_of high digits = fold (λ v b. 10 * v + (b - 48)) high digits

-- ---- bytes

-- LF
abbrev pub newline : ℕ
newline = 10

-- space, tab, CR, LF
abbrev pub is_blank : ℕ → Bool
is_blank b = nat_eq b 32 || nat_eq b 9 || nat_eq b 13 || nat_eq b newline

-- a letter or `_`
abbrev pub is_letter : ℕ → Bool
is_letter b = is_ascii_alphabetic b || nat_eq b 95

-- a byte of a name after its first one
abbrev pub is_letter_or_digit : ℕ → Bool
is_letter_or_digit b = is_letter b || is_ascii_digit b

-- the first byte is one of these
abbrev pub BeginsBy : (ℕ → Bool) → List ℕ → Type 0
BeginsBy p [] = ⊥
BeginsBy p (b ∷ bytes) = IsTrue (p b)

-- ---- what is between tokens

-- the bytes are somewhere in the text
abbrev pub StandsIn : List ℕ → List ℕ → Type 0
StandsIn bytes text = (front back : List ℕ) × (text ≡ front ++ bytes ++ back)

-- one space, tab, CR or LF
abbrev pub IsBlank : List ℕ → Type 0
IsBlank text = (b : ℕ) × IsTrue (is_blank b) × (text ≡ b ∷ [])

-- `//` up to the next LF, without it
abbrev pub IsLineComment : List ℕ → Type 0
IsLineComment text = (inside : List ℕ) × (text ≡ codes "//" ++ inside) × ¬ StandsIn (newline ∷ []) inside

-- `/*` up to the next `*/`, with it
abbrev pub IsBlockComment : List ℕ → Type 0
IsBlockComment text = (inside : List ℕ) × (text ≡ codes "/*" ++ inside ++ codes "*/") × ¬ StandsIn (codes "*/") inside

-- a blank, or a comment with its end; a line comment has the LF that ends it
abbrev pub IsFiller : List ℕ → Type 0
IsFiller text = IsBlank text ⊎ IsBlockComment text ⊎ ((comment : List ℕ) × IsLineComment comment × (text ≡ comment ++ newline ∷ []))

-- blanks and comments in any number
abbrev pub IsGap : List ℕ → Type 0
IsGap text = (parts : List (List ℕ)) × All IsFiller parts × (text ≡ flat_map (λ part. part) parts)

-- after the last token a line comment may go up to the end of the text
abbrev pub IsLastGap : List ℕ → Type 0
IsLastGap text = IsGap text ⊎ ((gap comment : List ℕ) × IsGap gap × IsLineComment comment × (text ≡ gap ++ comment))

-- ---- the bytes of a token

-- digits with this value, read from the left
abbrev pub IsNumber : List ℕ → ℕ → Type 0
IsNumber text n = (text ≢ []) × All (λ b. IsTrue (is_ascii_digit b)) text × (n ≡ fold (λ high b. 10 * high + (b - 48)) 0 text)

-- a letter or `_`, then letters, digits and `_`
abbrev pub IsName : List ℕ → Type 0
IsName [] = ⊥
IsName (b ∷ bytes) = IsTrue (is_letter b) × All (λ c. IsTrue (is_letter_or_digit c)) bytes

-- the bytes are those of such a token; a reserved word is no name
abbrev pub Spells : List ℕ → Kind → Type 0
Spells text Name = IsName text × ((w : word.Keyword) → text ≢ word_text w)
Spells text (Number n) = IsNumber text n
Spells text (Symbol s) = text ≡ symbol_text s
Spells text (Keyword w) = text ≡ word_text w

-- no longer front of the text spells a token
abbrev pub IsLongest : List ℕ → List ℕ → Type 0
IsLongest piece behind = (more rest : List ℕ) (k : Kind) → behind ≡ more ++ rest → Spells (piece ++ more) k → more ≡ []

-- The text from the offset `at` on is a gap, the token, and what is after it.
pub record Next (at : ℕ) (text : List ℕ) (t : Token) (behind : List ℕ) : Type 0 where
  pub gap : List ℕ
  pub piece : List ℕ
  pub whole : text ≡ gap ++ piece ++ behind
  pub between : IsGap gap
  pub spelled : Spells piece t.kind
  pub longest : IsLongest piece behind
  pub start : t.start ≡ at + length gap
  pub end : t.end ≡ t.start + length piece

-- a number that is too great, or that a letter or `_` follows at once
abbrev pub IsBadNumber : Kind → List ℕ → Type 0
IsBadNumber Name behind = ⊥
IsBadNumber (Number n) behind = (max_number < n) ⊎ BeginsBy is_letter behind
IsBadNumber (Symbol s) behind = ⊥
IsBadNumber (Keyword w) behind = ⊥

-- ---- texts

-- The text from the offset `at` on begins with these tokens. `behind` is what follows them, from
-- the offset `end` on.
abbrev pub Begins : ℕ → List ℕ → List Token → ℕ → List ℕ → Type 0
Begins at text [] end behind = (end ≡ at) × (behind ≡ text)
Begins at text (t ∷ ts) end behind = (between : List ℕ) × Next at text t between × ¬ IsBadNumber t.kind between × Begins t.end between ts end behind

-- all tokens of the text
abbrev pub AreTokens : List ℕ → List Token → Type 0
AreTokens text ts = (length text ≤ max_length) × (end : ℕ) × (rest : List ℕ) × Begins 0 text ts end rest × IsLastGap rest

-- The text begins with no token, no blank and no comment.
pub record BeginsNothing (text : List ℕ) : Type 0 where
  pub token : (piece behind : List ℕ) (k : Kind) → text ≡ piece ++ behind → ¬ Spells piece k
  pub blank : ¬ BeginsBy is_blank text
  pub line_comment : (behind : List ℕ) → text ≢ codes "//" ++ behind
  pub block_comment : (behind : List ℕ) → text ≢ codes "/*" ++ behind

-- After a gap, the text from the offset `at` on has this fault.
abbrev pub IsFaultAt : ℕ → List ℕ → LexError → Type 0
IsFaultAt at text TooLong = ⊥
IsFaultAt at text (BadByte offset) = (gap rest : List ℕ) × (text ≡ gap ++ rest) × IsGap gap × (rest ≢ []) × BeginsNothing rest × (offset ≡ at + length gap)
IsFaultAt at text (OpenComment offset) = (gap inside : List ℕ) × (text ≡ gap ++ codes "/*" ++ inside) × IsGap gap × ¬ StandsIn (codes "*/") inside × (offset ≡ at + length gap)
IsFaultAt at text (BadNumber offset) = (t : Token) × (behind : List ℕ) × Next at text t behind × IsBadNumber t.kind behind × (offset ≡ t.start)

-- the first fault of the text
abbrev pub IsFault : List ℕ → LexError → Type 0
IsFault text TooLong = max_length < length text
IsFault text e = (length text ≤ max_length) × (ts : List Token) × (end : ℕ) × (rest : List ℕ) × Begins 0 text ts end rest × IsFaultAt end rest e

-- ---- what holds of all tokens

-- if the token is a number, it is at most the greatest one
abbrev pub HasNumberInRange : Token → Type 0
HasNumberInRange t = (n : ℕ) → t.kind ≡ Number n → n ≤ max_number

-- From the offset `at` on the tokens are one after another, none of them empty, and end at the
-- offset `end` or before.
abbrev pub StandInOrder : ℕ → List Token → ℕ → Type 0
StandInOrder at [] end = at ≤ end
StandInOrder at (t ∷ ts) end = (at ≤ t.start) × (t.start < t.end) × StandInOrder t.end ts end

-- after blanks and comments the text has a token, and no fault before it
abbrev pub HasFirstToken : List ℕ → Type 0
HasFirstToken text = (length text ≤ max_length) × (t : Token) × (end : ℕ) × (behind : List ℕ) × Begins 0 text (t ∷ []) end behind
