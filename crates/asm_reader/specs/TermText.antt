-- Definition. What the term of a text is, which has nothing else in it, and why a text isn't one.
--     AreTerm                         the tokens spell the term
--     IsTermText                      the text has tokens that spell the term
--     IsTermRefusal                   what is wrong with a text that spells no term
--     ExplainsTermTokens, ExplainsTerm      the same, if a refusal names it
use Rattle.std.specs.Prelude.{ℕ, List}
use Rattle.asm_syntax.specs.declared.token.Token.{Token}
use Rattle.asm_syntax.specs.declared.input_error.InputError.{InputError}
use Rattle.asm_syntax.specs.SourceTree as source
use Rattle.asm_reader.specs.declared.error.ReadError.{ReadError}
use Rattle.asm_reader.specs.TermGrammar.{any_term}
use Rattle.asm_reader.specs.Specification.{AreSpellingBy, IsSpelledBy}
use Rattle.asm_reader.specs.Refusals.{IsRefusalBy, ExplainsTokensBy, ExplainsBy}

-- The names are from this text.
abbrev pub AreTerm : List ℕ → List Token → source.Term → Type 0
AreTerm text = AreSpellingBy (any_term text)

abbrev pub IsTermText : List ℕ → source.Term → Type 0
IsTermText text = IsSpelledBy (any_term text) text

abbrev pub IsTermRefusal : List ℕ → ReadError → Type 0
IsTermRefusal text = IsRefusalBy (any_term text) text

abbrev pub ExplainsTermTokens : List ℕ → List Token → InputError ReadError → Type 0
ExplainsTermTokens text = ExplainsTokensBy (any_term text)

abbrev pub ExplainsTerm : List ℕ → InputError ReadError → Type 0
ExplainsTerm text = ExplainsBy (any_term text) text
