-- Bridge to the code. What the functions of the lexer find at the front of a text.
use Rattle.std.specs.Prelude.{◌≡◌, ◌≢◌, ℕ, suc, ◌+◌, ◌<◌, ◌⊎◌, Bool, false, ◌&&◌, nat_eq, if◌then◌else◌, List, [], ◌∷◌, ◌++◌, length, codes, Option, Some, None, option_map}
use Rattle.std.specs.Char.{is_ascii_digit}
use Rattle.asm_syntax.specs.declared.token.Kind.TheVariants as kind
use Rattle.asm_syntax.specs.declared.front.Front.{Front}
use Rattle.asm_syntax.specs.declared.front.Front.TheVariants.{Filler, Token, BadNumber, OpenComment, BadByte}
pub use Rattle.asm_syntax.specs.Tokens.{value_of}
use Rattle.asm_syntax.specs.Tokens.{max_number, newline, is_blank, is_letter, BeginsBy, StandsIn, IsLineComment, IsFiller, IsNumber, Spells, IsLongest, IsBadNumber, BeginsNothing}

-- up to the first LF and with it
abbrev pub line_length : List ℕ → ℕ
line_length [] = 0
line_length (b ∷ bytes) = if nat_eq b newline then 1 else suc (line_length bytes)

-- whether the bytes begin with `*/`
abbrev pub closes : List ℕ → Bool
closes [] = false
closes (a ∷ []) = false
closes (a ∷ b ∷ bytes) = nat_eq a 42 && nat_eq b 47

-- how many bytes are before the first `*/`
abbrev pub length_before_close : List ℕ → Option ℕ
length_before_close [] = None
length_before_close (a ∷ bytes) = if closes (a ∷ bytes) then Some 0 else option_map suc (length_before_close bytes)

-- the same value, or both are above the greatest number
abbrev pub IsAsGreat : ℕ → ℕ → Type 0
IsAsGreat m n = (m ≡ n) ⊎ ((max_number < m) × (max_number < n))

-- whether the first byte is a letter or `_`
abbrev pub begins_by_letter : List ℕ → Bool
begins_by_letter [] = false
begins_by_letter (b ∷ bytes) = is_letter b

-- No blank, comment, name, word or number is at the front.
pub record IsPlain (text : List ℕ) : Type 0 where
  pub some : text ≢ []
  pub blank : ¬ BeginsBy is_blank text
  pub letter : ¬ BeginsBy is_letter text
  pub digit : ¬ BeginsBy is_ascii_digit text
  pub line_comment : (behind : List ℕ) → text ≢ codes "//" ++ behind
  pub block_comment : (behind : List ℕ) → text ≢ codes "/*" ++ behind

-- The text is a front of `count` bytes, and what is after it.
pub record Parts (text : List ℕ) (count : ℕ) (P : List ℕ → List ℕ → Type 0) : Type 0 where
  pub piece : List ℕ
  pub behind : List ℕ
  pub whole : text ≡ piece ++ behind
  pub size : length piece ≡ count
  pub some : 0 < count
  pub holds : P piece behind

-- what a text with this front begins with
abbrev pub IsFront : List ℕ → Front → Type 0
IsFront text (Filler n) = Parts text n (λ piece behind. IsFiller piece ⊎ (IsLineComment piece × (behind ≡ [])))
IsFront text (Token k n) = Parts text n (λ piece behind. Spells piece k × IsLongest piece behind × ¬ IsBadNumber k behind)
IsFront text BadNumber = (n : ℕ) × (v : ℕ) × Parts text n (λ piece behind. IsNumber piece v × IsLongest piece behind × IsBadNumber (kind.Number v) behind)
IsFront text OpenComment = (inside : List ℕ) × (text ≡ codes "/*" ++ inside) × ¬ StandsIn (codes "*/") inside
IsFront text BadByte = BeginsNothing text
