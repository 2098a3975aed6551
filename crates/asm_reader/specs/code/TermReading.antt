-- Bridge to the code. What the functions of the code read as terms: the productions, with the next
-- token to choose by.
use Rattle.std.specs.Prelude.{ℕ, zero, suc, false, List, [], ◌∷◌, ◌++◌, Ok, option_to_list}
use Rattle.asm_state.specs.declared.operation.Op.{Op}
use Rattle.asm_syntax.specs.declared.token.Kind.{Kind}
use Rattle.asm_syntax.specs.declared.token.Kind.TheVariants as kind
use Rattle.asm_syntax.specs.declared.token.Kind.TheVariants.{Number, Symbol, Keyword}
use Rattle.asm_syntax.specs.declared.token.Symbol.TheVariants.{Open, Close, Comma, Minus}
use Rattle.asm_syntax.specs.declared.token.Keyword.{Keyword as ReservedWord}
use Rattle.asm_syntax.specs.declared.token.Keyword.TheVariants.{Not, Exists, Forall, In, With, Holds, Result}
use Rattle.asm_syntax.specs.declared.term.Literal.TheVariants as literal
use Rattle.asm_syntax.specs.SourceTree as source
use Rattle.asm_syntax.specs.code.Views.{terms_of}
use Rattle.asm_reader.specs.declared.terms.Precedence.{Precedence}
use Rattle.asm_reader.specs.declared.terms.Precedence.TheVariants as precedence
use Rattle.asm_reader.specs.Kinds.{keys}
use Rattle.asm_reader.specs.code.Steps.{ReaderResult, Reader, and_then, refuse, expect, below, pair_of, mapped, either_of, option_of, repeated_of, number_at, choice_at, past_of, separated_of, between_of, braced_of}
use Rattle.asm_reader.specs.TermGrammar.{name_at_token, chain_of, listed, constants, disjunctions, conjunctions, comparisons, additions, products}

abbrev pub chain_at : List (Kind × Op) → Reader source.Term → Reader source.Term
chain_at table next = mapped chain_of (pair_of next (repeated_of (keys table) (pair_of (choice_at table) next)))

-- a chain, from after its first member on
abbrev pub links_behind : List (Kind × Op) → Reader source.Term → source.Term → Reader source.Term
links_behind table next first = mapped (λ links. chain_of (first, links)) (repeated_of (keys table) (pair_of (choice_at table) next))

-- the operators that can come after a factor
abbrev pub operators : List Kind
operators = keys products ++ keys additions ++ keys comparisons ++ keys conjunctions ++ keys disjunctions

-- the four chains, by how their operators bind
abbrev pub table_of : Precedence → List (Kind × Op)
table_of precedence.Disjunction = disjunctions
table_of precedence.Conjunction = conjunctions
table_of precedence.Sum = additions
table_of precedence.Product = products

module _ (text : List ℕ) where
  unfoldable pub name_at : Reader source.Name
  name_at = mapped (name_at_token text) (expect kind.Name)

  -- the word `result` as a name, and as a term
  unfoldable pub result_at : Reader source.Name
  result_at = mapped (name_at_token text) (expect (Keyword Result))

  unfoldable pub result_term_at : Reader source.Term
  result_term_at = mapped source.Result result_at

  unfoldable pub binding_at : Reader (source.Name × source.Name)
  binding_at = pair_of name_at (past_of (Keyword In) name_at)

  -- a binding between two words
  abbrev pub quantifier_at : (first second : ReservedWord) → Reader (source.Name × source.Name)
  quantifier_at first second = braced_of (Keyword first) (Keyword second) binding_at

  -- what is in parentheses
  module _ (deeper : Reader source.Term) where
    -- a binding after the one word, and a term after the other
    unfoldable pub quantified_at : (first second : ReservedWord) → Reader ((source.Name × source.Name) × source.Term)
    quantified_at first second = past_of (Keyword first) (pair_of binding_at (past_of (Keyword second) deeper))

    unfoldable pub exists_at : Reader source.Term
    exists_at = mapped (λ r. source.Exists r.0.0 r.0.1 r.1) (quantified_at Exists With)

    unfoldable pub every_at : Reader source.Term
    every_at = mapped (λ r. source.Every r.0.0 r.0.1 r.1) (quantified_at Forall Holds)

    unfoldable pub inner_at : Reader source.Term
    inner_at = either_of (Keyword Exists ∷ []) exists_at (either_of (Keyword Forall ∷ []) every_at deeper)

  -- n levels may open, and `deeper` reads a term after one of them has opened
  module _ (n : ℕ) (deeper : Reader source.Term) where
    unfoldable pub arguments_at : Reader (List source.Term)
    arguments_at = between_of n (Symbol Open) (Symbol Close) (separated_of (Symbol Comma) deeper)

    unfoldable pub applied_at : Reader (source.Name × source.Terms)
    applied_at = mapped (λ r. (r.0, terms_of (listed r.1))) (pair_of name_at (option_of (Symbol Open ∷ []) arguments_at))

    unfoldable pub parenthesized_at : Reader source.Term
    parenthesized_at = between_of n (Symbol Open) (Symbol Close) (inner_at deeper)

    unfoldable pub primary_at : Reader source.Term
    primary_at = either_of (Number 0 ∷ []) (mapped (λ v. source.Constant (literal.Number v)) (number_at false))
        (either_of (keys constants) (mapped source.Constant (choice_at constants))
        (either_of (kind.Name ∷ []) (mapped (λ r. source.Named r.0 r.1) applied_at) (either_of (Keyword Result ∷ []) result_term_at parenthesized_at)))

    unfoldable pub factor_at : Reader source.Term
    factor_at = either_of (Symbol Minus ∷ []) (mapped source.Negative (past_of (Symbol Minus) primary_at)) primary_at

    unfoldable pub product_at : Reader source.Term
    product_at = chain_at products factor_at

    unfoldable pub sum_at : Reader source.Term
    sum_at = chain_at additions product_at

    unfoldable pub comparison_at : Reader source.Term
    comparison_at = mapped (λ r. chain_of (r.0, option_to_list r.1)) (pair_of sum_at (option_of (keys comparisons) (pair_of (choice_at comparisons) sum_at)))

    unfoldable pub negation_at : Reader source.Term
    negation_at = either_of (Keyword Not ∷ []) (mapped source.Not (past_of (Keyword Not) comparison_at)) comparison_at

    unfoldable pub conjunction_at : Reader source.Term
    conjunction_at = chain_at conjunctions negation_at

    unfoldable pub disjunction_at : Reader source.Term
    disjunction_at = chain_at disjunctions conjunction_at

    abbrev pub operand_at : Precedence → Reader source.Term
    operand_at precedence.Disjunction = conjunction_at
    operand_at precedence.Conjunction = negation_at
    operand_at precedence.Sum = product_at
    operand_at precedence.Product = factor_at

    abbrev pub link_at : Precedence → Reader (Op × source.Term)
    link_at c = pair_of (choice_at (table_of c)) (operand_at c)

    abbrev pub chain_of_at : Precedence → Reader source.Term
    chain_of_at precedence.Disjunction = disjunction_at
    chain_of_at precedence.Conjunction = conjunction_at
    chain_of_at precedence.Sum = sum_at
    chain_of_at precedence.Product = product_at

    -- the same, from after the first member on
    abbrev pub chain_from_at : Precedence → source.Term → Reader source.Term
    chain_from_at c = links_behind (table_of c) (operand_at c)

    -- a comparison, from after its first side on
    abbrev pub compared_at : source.Term → Reader source.Term
    compared_at first = mapped (λ r. chain_of (first, option_to_list r)) (option_of (keys comparisons) (pair_of (choice_at comparisons) sum_at))

    -- what the operators after a factor make of it, if no `not` is before it
    abbrev pub carried_on : ReaderResult source.Term → ReaderResult source.Term
    carried_on factor = and_then (and_then (and_then (and_then (and_then factor (chain_from_at precedence.Product)) (chain_from_at precedence.Sum)) compared_at) (chain_from_at precedence.Conjunction)) (chain_from_at precedence.Disjunction)

  unfoldable pub term_at : ℕ → Reader source.Term
  term_at zero = disjunction_at zero refuse
  term_at (suc n) = disjunction_at (suc n) (term_at n)

  -- a term after a comma
  abbrev pub next_term_at : ℕ → Reader source.Term
  next_term_at n = past_of (Symbol Comma) (term_at n)

  abbrev pub terms_at : ℕ → Reader (List source.Term)
  terms_at n = separated_of (Symbol Comma) (term_at n)

  -- the same, with the reader of what comes after one of n levels
  module _ (n : ℕ) where
    abbrev pub arguments_in : Reader (List source.Term)
    arguments_in = arguments_at n (below term_at n)

    abbrev pub applied_in : Reader (source.Name × source.Terms)
    applied_in = applied_at n (below term_at n)

    abbrev pub parenthesized_in : Reader source.Term
    parenthesized_in = parenthesized_at n (below term_at n)

    abbrev pub primary_in : Reader source.Term
    primary_in = primary_at n (below term_at n)

    abbrev pub factor_in : Reader source.Term
    factor_in = factor_at n (below term_at n)

    abbrev pub sum_in : Reader source.Term
    sum_in = sum_at n (below term_at n)

    abbrev pub other_side_in : Reader (Op × source.Term)
    other_side_in = pair_of (choice_at comparisons) sum_in

    abbrev pub comparison_in : Reader source.Term
    comparison_in = comparison_at n (below term_at n)

    abbrev pub negation_in : Reader source.Term
    negation_in = negation_at n (below term_at n)

    abbrev pub operand_in : Precedence → Reader source.Term
    operand_in = operand_at n (below term_at n)

    abbrev pub link_in : Precedence → Reader (Op × source.Term)
    link_in = link_at n (below term_at n)

    abbrev pub links_in : Precedence → Reader (List (Op × source.Term))
    links_in c = repeated_of (keys (table_of c)) (link_in c)

    abbrev pub chain_in : Precedence → Reader source.Term
    chain_in = chain_of_at n (below term_at n)

    abbrev pub chain_from_in : Precedence → source.Term → Reader source.Term
    chain_from_in = chain_from_at n (below term_at n)

    abbrev pub compared_in : source.Term → Reader source.Term
    compared_in = compared_at n (below term_at n)

    abbrev pub carried_on_in : source.Term → Reader source.Term
    carried_on_in factor ts = carried_on n (below term_at n) (Ok (factor, ts))

    -- what is in parentheses, in which n levels may open
    abbrev pub quantified_in : (first second : ReservedWord) → Reader ((source.Name × source.Name) × source.Term)
    quantified_in = quantified_at (term_at n)

    abbrev pub exists_in : Reader source.Term
    exists_in = exists_at (term_at n)

    abbrev pub every_in : Reader source.Term
    every_in = every_at (term_at n)

    abbrev pub inner_in : Reader source.Term
    inner_in = inner_at (term_at n)
