-- Free. What the tokens of a text spell as a term, by the reader of terms.
use Rattle.std.proofs.Common.{◌≡◌, ℕ, suc, ◌<◌, ◌≤◌, List, length, get_or, Ok, Err}
use Rattle.asm_syntax.specs.declared.input_error.InputError.{InputError}
use Rattle.asm_syntax.specs.declared.input_error.InputError.TheVariants.{Named}
use Rattle.asm_syntax.specs.declared.token.Token.{Token}
use Rattle.asm_syntax.specs.SourceTree as source
use Rattle.asm_reader.specs.declared.error.ReadError.{ReadError}
use Rattle.asm_reader.specs.Productions.{Production}
use Rattle.asm_reader.specs.TermGrammar.{term_within, any_term}
use Rattle.asm_reader.specs.Specification.{max_nesting}
use Rattle.asm_reader.specs.TermText.{AreTerm, ExplainsTermTokens}
use Rattle.asm_reader.specs.Refusals.{IsUnexpectedBy}
use Rattle.asm_reader.specs.code.TermReading.{term_at}
use Rattle.asm_reader.proofs.ExactLemmas.ItemExact.{exact_term}
use Rattle.asm_reader.proofs.ExactLemmas.TermExact.{term_more}
use Rattle.asm_reader.proofs.WiderLemmas.WiderParts.{Includes}
use Rattle.asm_reader.proofs.WholeTexts.{ends_here, goes_past, explained}
use Rattle.asm_reader.proofs.OneTree.{one_tree}

module _ (text : List ℕ) where
  -- the terms that nest at most n + 1 levels deep
  abbrev within : ℕ → Production source.Term
  within n = term_within text (suc n)

  wide : (n : ℕ) → Includes (within n) (any_term text)
  wide n ts t p = (suc n, p)

  pub one_term_of_tokens : (ts : List Token) (s t : source.Term) → any_term text ts s → any_term text ts t → s ≡ t
  one_term_of_tokens = one_tree term_more within (any_term text) (term_at text) (exact_term text)

  module _ (ts : List Token) where
    pub term_spells_all : (t : source.Term) (rest : List Token) → term_at text max_nesting ts ≡ Ok (t, rest) → length rest < 1 → AreTerm text ts t
    term_spells_all = ends_here term_more (within max_nesting) (any_term text) (wide max_nesting) (term_at text max_nesting) (exact_term text max_nesting) ts

    pub term_spells_less : (t : source.Term) (rest : List Token) (default : Token) → term_at text max_nesting ts ≡ Ok (t, rest) → 1 ≤ length rest → IsUnexpectedBy (any_term text) ts (get_or rest 0 default).start
    term_spells_less = goes_past term_more (within max_nesting) (any_term text) (wide max_nesting) (term_at text max_nesting) (exact_term text max_nesting) ts

    pub term_spells_none : (e : InputError ReadError) → ((reason : ReadError) → e ≡ Named reason → term_at text max_nesting ts ≡ Err reason) → ExplainsTermTokens text ts e
    term_spells_none = explained term_more (within max_nesting) (any_term text) (wide max_nesting) (term_at text max_nesting) (exact_term text max_nesting) ts
