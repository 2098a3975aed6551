-- Definition. The grammar of terms, with the source trees that its texts make.
use Rattle.std.specs.Prelude.{ℕ, zero, suc, true, false, List, [], ◌∷◌, Option, Some, None, option_to_list, slice_range}
use Rattle.asm_state.specs.declared.operation.Op.{Op}
use Rattle.asm_state.specs.declared.operation.Op.TheVariants as op
use Rattle.asm_syntax.specs.declared.token.Kind.{Kind}
use Rattle.asm_syntax.specs.declared.token.Kind.TheVariants as kind
use Rattle.asm_syntax.specs.declared.token.Kind.TheVariants.{Symbol, Keyword}
use Rattle.asm_syntax.specs.declared.token.Symbol.TheVariants.{Open, Close, Comma, Plus, Minus, Times, Equal, NotEqual, Less, AtMost, Greater, AtLeast}
use Rattle.asm_syntax.specs.declared.token.Keyword.TheVariants.{Or, And, Not, Div, Mod, Exists, Forall, In, With, Holds, True, False, Undef, Result}
use Rattle.asm_syntax.specs.declared.token.Token.{Token}
use Rattle.asm_syntax.specs.declared.term.Literal.{Literal}
use Rattle.asm_syntax.specs.declared.term.Literal.TheVariants as literal
use Rattle.asm_syntax.specs.SourceTree as source
use Rattle.asm_syntax.specs.SourceTree.{terms_of, links_of}
use Rattle.asm_reader.specs.Productions.{Production, token, ◌then◌, ◌or◌, optional, repeated, ◌makes◌, nothing, number, choice, past, separated, between, at_any_depth}

-- ---- trees

-- the name that a token stands for: the offset of its first byte, and its bytes in the text
abbrev pub name_at_token : List ℕ → Token → source.Name
name_at_token text t = record { at = t.start; text = slice_range text t.start t.end }

-- a chain with nothing after its first member is that member
abbrev pub chain_of : source.Term × List (Op × source.Term) → source.Term
chain_of (first, []) = first
chain_of (first, link ∷ links) = source.Chain first (links_of (link ∷ links))

-- a list that may be left out
abbrev pub listed : {A : Type 0} → Option (List A) → List A
listed None = []
listed (Some xs) = xs

-- ---- tables of tokens

abbrev pub constants : List (Kind × Literal)
constants = (Keyword True, literal.Truth true) ∷ (Keyword False, literal.Truth false) ∷ (Keyword Undef, literal.Undef) ∷ []

abbrev pub disjunctions : List (Kind × Op)
disjunctions = (Keyword Or, op.Or) ∷ []

abbrev pub conjunctions : List (Kind × Op)
conjunctions = (Keyword And, op.And) ∷ []

abbrev pub comparisons : List (Kind × Op)
comparisons = (Symbol Equal, op.Equal) ∷ (Symbol NotEqual, op.Different) ∷ (Symbol Less, op.Less)
    ∷ (Symbol AtMost, op.AtMost) ∷ (Symbol Greater, op.Greater) ∷ (Symbol AtLeast, op.AtLeast) ∷ []

abbrev pub additions : List (Kind × Op)
additions = (Symbol Plus, op.Add) ∷ (Symbol Minus, op.Subtract) ∷ []

abbrev pub products : List (Kind × Op)
products = (Symbol Times, op.Multiply) ∷ (Keyword Div, op.Divide) ∷ (Keyword Mod, op.Remainder) ∷ []

-- first { operator next }
abbrev pub chain : List (Kind × Op) → Production source.Term → Production source.Term
chain table next = (next then repeated (choice table then next)) makes chain_of

-- ---- productions, for names whose bytes are in this text

module _ (text : List ℕ) where
  abbrev pub name : Production source.Name
  name = token kind.Name makes name_at_token text

  -- "result", as a name
  abbrev pub result_name : Production source.Name
  result_name = token (Keyword Result) makes name_at_token text

  -- "result"
  unfoldable pub answer : Production source.Term
  answer = result_name makes source.Result

  -- name "in" name
  unfoldable pub binding : Production (source.Name × source.Name)
  binding = name then past (Keyword In) name

  -- over the terms that are in parentheses
  module _ (deeper : Production source.Term) where
    -- "(" term { "," term } ")"
    unfoldable pub arguments : Production (List source.Term)
    arguments = between (Symbol Open) (Symbol Close) (separated (Symbol Comma) deeper)

    -- name [ arguments ]
    unfoldable pub applied : Production (source.Name × source.Terms)
    applied = (name then optional arguments) makes (λ r. (r.0, terms_of (listed r.1)))

    -- "exists" name "in" name "with" term
    unfoldable pub exists_term : Production source.Term
    exists_term = past (Keyword Exists) (binding then past (Keyword With) deeper) makes (λ r. source.Exists r.0.0 r.0.1 r.1)

    -- "forall" name "in" name "holds" term
    unfoldable pub every_term : Production source.Term
    every_term = past (Keyword Forall) (binding then past (Keyword Holds) deeper) makes (λ r. source.Every r.0.0 r.0.1 r.1)

    -- what is in parentheses
    unfoldable pub inner : Production source.Term
    inner = exists_term or every_term or deeper

    -- and over the words that are terms by themselves
    module _ (word : Production source.Term) where
      -- number | "true" | "false" | "undef" | name [ arguments ] | word | "(" inner ")"
      unfoldable pub primary : Production source.Term
      primary = (number makes (λ n. source.Constant (literal.Number n))) or (choice constants makes source.Constant)
          or (applied makes (λ r. source.Named r.0 r.1)) or word or between (Symbol Open) (Symbol Close) inner

      -- [ "-" ] primary
      unfoldable pub factor : Production source.Term
      factor = (past (Symbol Minus) primary makes source.Negative) or primary

      -- factor { ( "*" | "div" | "mod" ) factor }
      unfoldable pub product : Production source.Term
      product = chain products factor

      -- product { ( "+" | "-" ) product }
      unfoldable pub sum : Production source.Term
      sum = chain additions product

      -- sum [ ( "=" | "!=" | "<" | "<=" | ">" | ">=" ) sum ]
      unfoldable pub comparison : Production source.Term
      comparison = (sum then optional (choice comparisons then sum)) makes (λ r. chain_of (r.0, option_to_list r.1))

      -- [ "not" ] comparison
      unfoldable pub negation : Production source.Term
      negation = (past (Keyword Not) comparison makes source.Not) or comparison

      -- negation { "and" negation }
      unfoldable pub conjunction : Production source.Term
      conjunction = chain conjunctions negation

      -- conjunction { "or" conjunction }
      unfoldable pub term_over : Production source.Term
      term_over = chain disjunctions conjunction

  -- a term in which parentheses nest at most n deep
  unfoldable pub term_within : ℕ → Production source.Term
  term_within zero = term_over nothing answer
  term_within (suc n) = term_over (term_within n) answer

  abbrev pub any_term : Production source.Term
  any_term = at_any_depth term_within
