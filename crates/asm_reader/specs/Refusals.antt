-- Definition. Why a text isn't a specification.
--     IsUnexpectedBy, IsUnexpectedEndBy, IsTooDeepBy      what is wrong with a list of tokens, by a
--                                                         production
--     IsRefusalBy                                         the same of a text
--     IsUnexpected, IsUnexpectedEnd, IsTooDeep, IsRefusal      by that of whole specifications
--     refusal_number, refusal_offset                      the number of a refusal, and the offset
--                                                         where it is, if it has one
use Rattle.std.specs.Prelude.{◌≡◌, ℕ, List, [], ◌∷◌, ◌++◌, Option, Some, None}
use Rattle.asm_syntax.specs.declared.token.Token.{Token}
use Rattle.asm_syntax.specs.declared.input_error.InputError.{InputError}
use Rattle.asm_syntax.specs.declared.input_error.InputError.TheVariants.{Memory, Named}
use Rattle.asm_syntax.specs.Tokens.{AreTokens, IsFault}
use Rattle.asm_syntax.specs.Faults.{fault_number, fault_offset}
use Rattle.asm_reader.specs.declared.error.ReadError.{ReadError}
use Rattle.asm_reader.specs.declared.error.ReadError.TheVariants.{Lex, Unexpected, UnexpectedEnd, TooDeep}
use Rattle.asm_reader.specs.Productions.{Production}
use Rattle.asm_reader.specs.Grammar.{specification}
use Rattle.asm_reader.specs.Specification.{CanGoOnBy, IsWithinLevels}

-- ---- by a production

module _ {A : Type 0} (P : Production A) (ts : List Token) where
  -- The tokens before this one go on, and with it they don't.
  pub record IsUnexpectedBy (at : ℕ) : Type 0 where
    pub before : List Token
    pub bad : Token
    pub after : List Token
    pub parts : ts ≡ before ++ bad ∷ after
    pub start : at ≡ bad.start
    pub goes : CanGoOnBy P before
    pub stops : ¬ CanGoOnBy P (before ++ bad ∷ [])
    pub levels : IsWithinLevels before

  -- The tokens go on, and spell nothing.
  pub record IsUnexpectedEndBy : Type 0 where
    pub goes : CanGoOnBy P ts
    pub unfinished : (x : A) → ¬ P ts x
    pub levels : IsWithinLevels ts

  -- The tokens go on with this one, and it opens a level too many.
  pub record IsTooDeepBy (at : ℕ) : Type 0 where
    pub before : List Token
    pub opener : Token
    pub after : List Token
    pub parts : ts ≡ before ++ opener ∷ after
    pub start : at ≡ opener.start
    pub goes : CanGoOnBy P (before ++ opener ∷ [])
    pub levels : IsWithinLevels before
    pub opens : ¬ IsWithinLevels (before ++ opener ∷ [])

-- The text has tokens for which this holds.
abbrev pub HasTokens : List ℕ → (List Token → Type 0) → Type 0
HasTokens text P = (ts : List Token) × AreTokens text ts × P ts

module _ {A : Type 0} (P : Production A) where
  -- what is wrong with the tokens
  abbrev pub IsRefusalOfTokensBy : List Token → ReadError → Type 0
  IsRefusalOfTokensBy ts (Lex e) = ⊥
  IsRefusalOfTokensBy ts (Unexpected at) = IsUnexpectedBy P ts at
  IsRefusalOfTokensBy ts UnexpectedEnd = IsUnexpectedEndBy P ts
  IsRefusalOfTokensBy ts (TooDeep at) = IsTooDeepBy P ts at

  -- what is wrong with the text
  abbrev pub IsRefusalBy : List ℕ → ReadError → Type 0
  IsRefusalBy text (Lex e) = IsFault text e
  IsRefusalBy text (Unexpected at) = HasTokens text (λ ts. IsUnexpectedBy P ts at)
  IsRefusalBy text UnexpectedEnd = HasTokens text (IsUnexpectedEndBy P)
  IsRefusalBy text (TooDeep at) = HasTokens text (λ ts. IsTooDeepBy P ts at)

  -- what is wrong with the tokens, if the refusal names it
  abbrev pub ExplainsTokensBy : List Token → InputError ReadError → Type 0
  ExplainsTokensBy ts Memory = Unit {0}
  ExplainsTokensBy ts (Named e) = IsRefusalOfTokensBy ts e

  -- what is wrong with the text, if the refusal names it
  abbrev pub ExplainsBy : List ℕ → InputError ReadError → Type 0
  ExplainsBy text Memory = Unit {0}
  ExplainsBy text (Named e) = IsRefusalBy text e

-- ---- by that of specifications, with names from this text

abbrev pub IsUnexpected : List ℕ → List Token → (at : ℕ) → Type 0
IsUnexpected text = IsUnexpectedBy (specification text)

abbrev pub IsUnexpectedEnd : List ℕ → List Token → Type 0
IsUnexpectedEnd text = IsUnexpectedEndBy (specification text)

abbrev pub IsTooDeep : List ℕ → List Token → (at : ℕ) → Type 0
IsTooDeep text = IsTooDeepBy (specification text)

abbrev pub IsRefusalOfTokens : List ℕ → List Token → ReadError → Type 0
IsRefusalOfTokens text = IsRefusalOfTokensBy (specification text)

abbrev pub IsRefusal : List ℕ → ReadError → Type 0
IsRefusal text = IsRefusalBy (specification text) text

abbrev pub ExplainsTokens : List ℕ → List Token → InputError ReadError → Type 0
ExplainsTokens text = ExplainsTokensBy (specification text)

abbrev pub Explains : List ℕ → InputError ReadError → Type 0
Explains text = ExplainsBy (specification text) text

-- ---- what is told of a refusal

abbrev pub refusal_number : ReadError → ℕ
refusal_number (Lex e) = fault_number e
refusal_number (Unexpected at) = 5
refusal_number UnexpectedEnd = 6
refusal_number (TooDeep at) = 7

abbrev pub refusal_offset : ReadError → Option ℕ
refusal_offset (Lex e) = fault_offset e
refusal_offset (Unexpected at) = Some at
refusal_offset UnexpectedEnd = None
refusal_offset (TooDeep at) = Some at
