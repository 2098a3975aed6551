-- Free. What the bytes of words and symbols begin with.
use Rattle.std.proofs.Common.{◌≡◌, ℕ, List, [], ◌∷◌, Bool, true, false, not, refl}
use Rattle.std.specs.Prelude.{◌&&◌}
use Rattle.asm_syntax.specs.declared.token.Symbol.{Symbol}
use Rattle.asm_syntax.specs.declared.token.Symbol.TheVariants as symbol
use Rattle.asm_syntax.specs.declared.token.Keyword.{Keyword}
use Rattle.asm_syntax.specs.declared.token.Keyword.TheVariants as word
use Rattle.asm_syntax.specs.Tokens.{is_letter, is_letter_or_digit}
use Rattle.asm_syntax.specs.Spellings.{symbol_text, word_text}
use Rattle.asm_syntax.proofs.Bytes.{begins_filler}

-- whether the text begins with no letter or digit
abbrev pub begins_plain : List ℕ → Bool
begins_plain [] = true
begins_plain (b ∷ bytes) = not (is_letter_or_digit b)

abbrev pub all_in_names : List ℕ → Bool
all_in_names [] = true
all_in_names (b ∷ bytes) = is_letter_or_digit b && all_in_names bytes

abbrev pub is_name : List ℕ → Bool
is_name [] = false
is_name (b ∷ bytes) = is_letter b && all_in_names bytes

-- one byte or two
abbrev pub is_short : List ℕ → Bool
is_short [] = false
is_short (a ∷ []) = true
is_short (a ∷ b ∷ []) = true
is_short (a ∷ b ∷ c ∷ bytes) = false

-- whether the text begins with a blank or `/`
abbrev pub begins_as_filler : List ℕ → Bool
begins_as_filler [] = false
begins_as_filler (b ∷ bytes) = begins_filler b

pub symbol_is_plain : (s : Symbol) → begins_plain (symbol_text s) ≡ true
symbol_is_plain symbol.Open = refl
symbol_is_plain symbol.Close = refl
symbol_is_plain symbol.OpenBrace = refl
symbol_is_plain symbol.CloseBrace = refl
symbol_is_plain symbol.Comma = refl
symbol_is_plain symbol.Colon = refl
symbol_is_plain symbol.Assign = refl
symbol_is_plain symbol.Equal = refl
symbol_is_plain symbol.NotEqual = refl
symbol_is_plain symbol.Less = refl
symbol_is_plain symbol.AtMost = refl
symbol_is_plain symbol.Greater = refl
symbol_is_plain symbol.AtLeast = refl
symbol_is_plain symbol.LeftArrow = refl
symbol_is_plain symbol.Plus = refl
symbol_is_plain symbol.Minus = refl
symbol_is_plain symbol.Times = refl
symbol_is_plain symbol.Arrow = refl
symbol_is_plain symbol.Dots = refl

pub symbol_is_short : (s : Symbol) → is_short (symbol_text s) ≡ true
symbol_is_short symbol.Open = refl
symbol_is_short symbol.Close = refl
symbol_is_short symbol.OpenBrace = refl
symbol_is_short symbol.CloseBrace = refl
symbol_is_short symbol.Comma = refl
symbol_is_short symbol.Colon = refl
symbol_is_short symbol.Assign = refl
symbol_is_short symbol.Equal = refl
symbol_is_short symbol.NotEqual = refl
symbol_is_short symbol.Less = refl
symbol_is_short symbol.AtMost = refl
symbol_is_short symbol.Greater = refl
symbol_is_short symbol.AtLeast = refl
symbol_is_short symbol.LeftArrow = refl
symbol_is_short symbol.Plus = refl
symbol_is_short symbol.Minus = refl
symbol_is_short symbol.Times = refl
symbol_is_short symbol.Arrow = refl
symbol_is_short symbol.Dots = refl

pub symbol_is_no_filler : (s : Symbol) → begins_as_filler (symbol_text s) ≡ false
symbol_is_no_filler symbol.Open = refl
symbol_is_no_filler symbol.Close = refl
symbol_is_no_filler symbol.OpenBrace = refl
symbol_is_no_filler symbol.CloseBrace = refl
symbol_is_no_filler symbol.Comma = refl
symbol_is_no_filler symbol.Colon = refl
symbol_is_no_filler symbol.Assign = refl
symbol_is_no_filler symbol.Equal = refl
symbol_is_no_filler symbol.NotEqual = refl
symbol_is_no_filler symbol.Less = refl
symbol_is_no_filler symbol.AtMost = refl
symbol_is_no_filler symbol.Greater = refl
symbol_is_no_filler symbol.AtLeast = refl
symbol_is_no_filler symbol.LeftArrow = refl
symbol_is_no_filler symbol.Plus = refl
symbol_is_no_filler symbol.Minus = refl
symbol_is_no_filler symbol.Times = refl
symbol_is_no_filler symbol.Arrow = refl
symbol_is_no_filler symbol.Dots = refl

pub word_is_name : (w : Keyword) → is_name (word_text w) ≡ true
word_is_name word.CoreAsm = refl
word_is_name word.Use = refl
word_is_name word.Init = refl
word_is_name word.Enum = refl
word_is_name word.Universe = refl
word_is_name word.Function = refl
word_is_name word.Controlled = refl
word_is_name word.Static = refl
word_is_name word.Initially = refl
word_is_name word.Derived = refl
word_is_name word.Rule = refl
word_is_name word.Skip = refl
word_is_name word.Par = refl
word_is_name word.EndPar = refl
word_is_name word.Seq = refl
word_is_name word.EndSeq = refl
word_is_name word.If = refl
word_is_name word.Then = refl
word_is_name word.Else = refl
word_is_name word.EndIf = refl
word_is_name word.Let = refl
word_is_name word.In = refl
word_is_name word.EndLet = refl
word_is_name word.Forall = refl
word_is_name word.With = refl
word_is_name word.Do = refl
word_is_name word.EndForall = refl
word_is_name word.Choose = refl
word_is_name word.IfNone = refl
word_is_name word.EndChoose = refl
word_is_name word.Iterate = refl
word_is_name word.EndIterate = refl
word_is_name word.Exists = refl
word_is_name word.Holds = refl
word_is_name word.And = refl
word_is_name word.Or = refl
word_is_name word.Not = refl
word_is_name word.Div = refl
word_is_name word.Mod = refl
word_is_name word.True = refl
word_is_name word.False = refl
word_is_name word.Undef = refl
word_is_name word.While = refl
word_is_name word.EndWhile = refl
word_is_name word.Result = refl
