-- Free. What a reader returns for tokens is right. So each text has a specification or a refusal,
-- and a term or a refusal as one.
use Rattle.std.proofs.Common.{◌≡◌, ◌⊎◌, ℕ, ◌<◌, ◌≤◌, List, [], ◌∷◌, length, get_or, Result, Ok, Err, ap, subst, ◌∙◌, refl, arith, inl, inr}
use Rattle.asm_syntax.specs.declared.error.LexError.{LexError}
use Rattle.asm_syntax.specs.declared.input_error.InputError.TheVariants.{Named}
use Rattle.asm_syntax.specs.declared.input_error.InputError.{InputError}
use Rattle.asm_syntax.specs.declared.token.Token.{Token}
use Rattle.asm_syntax.specs.SourceTree as source
use Rattle.asm_syntax.specs.Tokens.{AreTokens, IsFault}
use Rattle.asm_reader.specs.declared.error.ReadError.{ReadError}
use Rattle.asm_reader.specs.declared.error.ReadError.TheVariants.{Lex, Unexpected, UnexpectedEnd, TooDeep}
use Rattle.asm_reader.specs.Productions.{Production}
use Rattle.asm_reader.specs.Grammar.{specification}
use Rattle.asm_reader.specs.TermGrammar.{any_term}
use Rattle.asm_reader.specs.Specification.{max_nesting, AreSpellingBy, IsSpelledBy, IsSpecification}
use Rattle.asm_reader.specs.Refusals.{IsUnexpectedBy, IsRefusalOfTokensBy, IsRefusalBy, ExplainsTokensBy, IsRefusal}
use Rattle.asm_reader.specs.TermText.{IsTermText, IsTermRefusal}
use Rattle.asm_reader.specs.code.Reading.{specification_at}
use Rattle.asm_reader.specs.code.TermReading.{term_at}
use Rattle.asm_reader.specs.code.Steps.{ReaderResult, Reader}
use Rattle.asm_reader.proofs.Spellings.{spells_all, spells_less, spells_none}
use Rattle.asm_reader.proofs.TermSpellings.{term_spells_all, term_spells_less, term_spells_none}

-- what was read up to the end, or why it isn't all
abbrev whole : {A : Type 0} → ReaderResult A → Result A ReadError
whole (Ok (x, [])) = Ok x
whole (Ok (x, t ∷ rest)) = Err (Unexpected t.start)
whole (Err e) = Err e

-- the result is right
abbrev pub IsRight : {A : Type 0} → Production A → List Token → Result A ReadError → Type 0
IsRight N ts (Ok x) = AreSpellingBy N ts x
IsRight N ts (Err e) = IsRefusalOfTokensBy N ts e

-- a reader of what N makes
module _ {A : Type 0} (N : Production A) (f : Reader A)
    (all : (ts : List Token) (x : A) (rest : List Token) → f ts ≡ Ok (x, rest) → length rest < 1 → AreSpellingBy N ts x)
    (less : (ts : List Token) (x : A) (rest : List Token) (default : Token) → f ts ≡ Ok (x, rest) → 1 ≤ length rest → IsUnexpectedBy N ts (get_or rest 0 default).start)
    (none : (ts : List Token) (e : InputError ReadError) → ((reason : ReadError) → e ≡ Named reason → f ts ≡ Err reason) → ExplainsTokensBy N ts e) where
  is_right : (ts : List Token) → IsRight N ts (whole (f ts))
  is_right ts = by (f ts) refl
    where
      same_reason : (d e : ReadError) → ◌≡◌ {A = InputError ReadError} (Named d) (Named e) → d ≡ e
      same_reason d e same = cc

      by : (r : ReaderResult A) → f ts ≡ r → IsRight N ts (whole r)
      by (Ok (x, [])) is = all ts x [] is (omega arith)
      by (Ok (x, t ∷ rest)) is = less ts x (t ∷ rest) t is (omega arith)
      by (Err e) is = none ts (Named e) (λ reason same. is ∙ ap Err (same_reason e reason same))

  module _ (text : List ℕ) where
    refusal_of_text : (ts : List Token) (e : ReadError) → AreTokens text ts → IsRefusalOfTokensBy N ts e → IsRefusalBy N text e
    refusal_of_text ts (Lex d) are p = absurd p
    refusal_of_text ts (Unexpected at) are p = (ts, are, p)
    refusal_of_text ts UnexpectedEnd are p = (ts, are, p)
    refusal_of_text ts (TooDeep at) are p = (ts, are, p)

    abbrev HasReaderResult : Type 0
    HasReaderResult = ((x : A) × IsSpelledBy N text x) ⊎ ((e : ReadError) × IsRefusalBy N text e)

    -- by the law of tokens and faults
    found_or_refused : ((ts : List Token) × AreTokens text ts) ⊎ ((d : LexError) × IsFault text d) → HasReaderResult
    found_or_refused (inr (d, p)) = inr (Lex d, p)
    found_or_refused (inl (ts, are)) = by (whole (f ts)) (is_right ts)
      where
        by : (r : Result A ReadError) → IsRight N ts r → HasReaderResult
        by (Ok x) spelled = inl (x, (ts, are, spelled))
        by (Err e) p = inr (e, refusal_of_text ts e are p)

module _ (text : List ℕ) where
  -- what the reader of specifications returns, when it is known
  pub answers : (ts : List Token) (r : Result source.Spec ReadError) → whole (specification_at text max_nesting ts) ≡ r → IsRight (specification text) ts r
  answers ts r e = subst (IsRight (specification text) ts) e (is_right (specification text) (specification_at text max_nesting) (spells_all text) (spells_less text) (spells_none text) ts)

  abbrev TokensOrFault : Type 0
  TokensOrFault = ((ts : List Token) × AreTokens text ts) ⊎ ((d : LexError) × IsFault text d)

  pub tree_or_a_refusal : TokensOrFault → ((s : source.Spec) × IsSpecification text s) ⊎ ((e : ReadError) × IsRefusal text e)
  tree_or_a_refusal = found_or_refused (specification text) (specification_at text max_nesting) (spells_all text) (spells_less text) (spells_none text) text

  -- and that of terms
  pub term_or_a_refusal : TokensOrFault → ((t : source.Term) × IsTermText text t) ⊎ ((e : ReadError) × IsTermRefusal text e)
  term_or_a_refusal = found_or_refused (any_term text) (term_at text max_nesting) (term_spells_all text) (term_spells_less text) (term_spells_none text) text
