-- Definition. What the specification of a text is, by what a production makes of its tokens.
--     IsWithinLevels          the tokens nest no deeper than they may
--     CanGoOnBy               the tokens are the beginning of what a production asks for
--     AreSpellingBy           the tokens spell what it makes
--     IsSpelledBy             the text has tokens that spell it
--     CanGoOn, AreSpelling, IsSpecification       the same for whole specifications
use Rattle.std.specs.Prelude.{ℕ, List, ◌++◌, IsSome}
use Rattle.asm_syntax.specs.declared.token.Token.{Token}
use Rattle.asm_syntax.specs.SourceTree as source
use Rattle.asm_syntax.specs.Tokens.{AreTokens}
use Rattle.asm_reader.specs.Productions.{Production}
use Rattle.asm_reader.specs.Levels.{at_depth, depth_after}
use Rattle.asm_reader.specs.Grammar.{specification}

abbrev pub max_nesting : ℕ
max_nesting = 64

-- no token opens a 65th level
abbrev pub IsWithinLevels : List Token → Type 0
IsWithinLevels ts = IsSome (depth_after (at_depth max_nesting) ts).left

-- ---- by a production

module _ {A : Type 0} (P : Production A) where
  -- With some tokens after them, perhaps none, the tokens spell something, at any depth.
  abbrev pub CanGoOnBy : List Token → Type 0
  CanGoOnBy ts = (more : List Token) × (x : A) × P (ts ++ more) x

  -- The tokens spell this, and nest no deeper than they may.
  abbrev pub AreSpellingBy : List Token → A → Type 0
  AreSpellingBy ts x = P ts x × IsWithinLevels ts

  -- The text has tokens that spell this.
  abbrev pub IsSpelledBy : List ℕ → A → Type 0
  IsSpelledBy text x = (ts : List Token) × AreTokens text ts × AreSpellingBy ts x

-- ---- by that of specifications, with names from this text

abbrev pub CanGoOn : List ℕ → List Token → Type 0
CanGoOn text = CanGoOnBy (specification text)

abbrev pub AreSpelling : List ℕ → List Token → source.Spec → Type 0
AreSpelling text = AreSpellingBy (specification text)

abbrev pub IsSpecification : List ℕ → source.Spec → Type 0
IsSpecification text = IsSpelledBy (specification text) text
