-- Free. What the tokens of a text spell, by the reader of specifications.
use Rattle.std.proofs.Common.{◌≡◌, ℕ, suc, ◌<◌, ◌≤◌, List, length, get_or, Ok, Err}
use Rattle.asm_syntax.specs.declared.input_error.InputError.{InputError}
use Rattle.asm_syntax.specs.declared.input_error.InputError.TheVariants.{Named}
use Rattle.asm_syntax.specs.declared.token.Token.{Token}
use Rattle.asm_syntax.specs.SourceTree as source
use Rattle.asm_reader.specs.declared.error.ReadError.{ReadError}
use Rattle.asm_reader.specs.Productions.{Production}
use Rattle.asm_reader.specs.TermGrammar.{term_within}
use Rattle.asm_reader.specs.RuleGrammar.{rule_within}
use Rattle.asm_reader.specs.Grammar.{specification_over, specification}
use Rattle.asm_reader.specs.Specification.{max_nesting, AreSpelling}
use Rattle.asm_reader.specs.code.Reading.{specification_at}
use Rattle.asm_reader.specs.Refusals.{IsUnexpected, ExplainsTokens}
use Rattle.asm_reader.proofs.ExactLemmas.ItemExact.{items_more, exact_specification}
use Rattle.asm_reader.proofs.WiderLemmas.ItemWider.{wide_specification}
use Rattle.asm_reader.proofs.WiderLemmas.WiderParts.{Includes}
use Rattle.asm_reader.proofs.WholeTexts.{ends_here, goes_past, explained}
use Rattle.asm_reader.proofs.OneTree.{one_tree}

module _ (text : List ℕ) where
  -- the specifications whose terms and rules nest at most n + 1 levels deep
  abbrev within : ℕ → Production source.Spec
  within n = specification_over text (term_within text (suc n)) (rule_within text (suc n))

  wide : (n : ℕ) → Includes (within n) (specification text)
  wide = wide_specification text

  pub one_tree_of_tokens : (ts : List Token) (s t : source.Spec) → specification text ts s → specification text ts t → s ≡ t
  one_tree_of_tokens = one_tree items_more within (specification text) (specification_at text) (exact_specification text)

  module _ (ts : List Token) where
    pub spells_all : (s : source.Spec) (rest : List Token) → specification_at text max_nesting ts ≡ Ok (s, rest) → length rest < 1 → AreSpelling text ts s
    spells_all = ends_here items_more (within max_nesting) (specification text) (wide max_nesting) (specification_at text max_nesting) (exact_specification text max_nesting) ts

    pub spells_less : (s : source.Spec) (rest : List Token) (default : Token) → specification_at text max_nesting ts ≡ Ok (s, rest) → 1 ≤ length rest → IsUnexpected text ts (get_or rest 0 default).start
    spells_less = goes_past items_more (within max_nesting) (specification text) (wide max_nesting) (specification_at text max_nesting) (exact_specification text max_nesting) ts

    pub spells_none : (e : InputError ReadError) → ((reason : ReadError) → e ≡ Named reason → specification_at text max_nesting ts ≡ Err reason) → ExplainsTokens text ts e
    spells_none = explained items_more (within max_nesting) (specification text) (wide max_nesting) (specification_at text max_nesting) (exact_specification text max_nesting) ts
