-- Free. The readers of names and terms are exact.
use Rattle.std.proofs.Common.{◌≡◌, ℕ, zero, suc, Bool, true, false, List, [], ◌∷◌, None, refl, inl, inr}
use Rattle.std.specs.Prelude.{option_to_list}
use Rattle.asm_state.specs.declared.operation.Op.{Op}
use Rattle.asm_syntax.specs.declared.token.Kind.{Kind}
use Rattle.asm_syntax.specs.declared.token.Kind.TheVariants as kind
use Rattle.asm_syntax.specs.declared.token.Kind.TheVariants.{Number, Symbol, Keyword}
use Rattle.asm_syntax.specs.declared.token.Symbol.TheVariants.{Open, Close, Comma, Plus, Minus, Times, Equal, NotEqual, Less, AtMost, Greater, AtLeast}
use Rattle.asm_syntax.specs.declared.token.Keyword.TheVariants.{Or, And, Not, Div, Mod, Exists, Forall, In, With, Holds, True, False, Undef, Result}
use Rattle.asm_syntax.specs.declared.token.Token.{Token}
use Rattle.asm_syntax.specs.declared.term.Literal.TheVariants as literal
use Rattle.asm_syntax.specs.SourceTree as source
use Rattle.asm_syntax.specs.code.Views.{terms_of}
use Rattle.asm_reader.specs.Kinds.{keys}
use Rattle.asm_reader.specs.Levels.{opens, after_token}
use Rattle.asm_reader.specs.Productions.{Production, token, ◌then◌, ◌or◌, optional, ◌makes◌, nothing, number, choice, past, separated, between}
use Rattle.asm_reader.specs.code.Steps.{Reader, expect, pair_of, mapped, either_of, option_of, number_at, choice_at, past_of, separated_of, between_of}
use Rattle.asm_reader.specs.TermGrammar as g
use Rattle.asm_reader.specs.TermGrammar.{name_at_token, chain_of, listed, constants, disjunctions, conjunctions, comparisons, additions, products}
use Rattle.asm_reader.specs.code.TermReading as r
use Rattle.asm_reader.proofs.Lists.{alike_name, alike_symbol, alike_word, apart}
use Rattle.asm_reader.proofs.ExactLemmas.Readers.{IsExact, Begins, HasText, IsSingle, exact_token, exact_pair, exact_makes, exact_optional, ends_none, ends_by, has_token, begins_token}
use Rattle.asm_reader.proofs.ExactLemmas.ExactTokens.{depth, IsPlain, exact_plain, exact_past, has_past, has_makes, has_then, begins_makes, begins_then, begins_past, optional_ends, begins_or, exact_or}
use Rattle.asm_reader.proofs.ExactLemmas.EnclosedReaders.{begins_between, exact_between, has_separated, exact_separated}
use Rattle.asm_reader.proofs.ExactLemmas.Chains.{link, link_of, begins_link, exact_link, exact_chain, begins_chain, has_chain}
use Rattle.asm_reader.proofs.ExactLemmas.Choices.{products_plain, has_products, additions_plain, has_additions, comparisons_plain, has_comparisons, conjunctions_plain, has_conjunctions, disjunctions_plain, has_disjunctions}
pub use Rattle.asm_reader.proofs.ExactLemmas.Choices.{some_choice, PlainRows, exact_choice, begins_choice, constants_plain, has_constant, exact_number, has_number, begins_number}

-- ---- sets of kinds

-- what a term begins with
abbrev pub primary_first : List Kind
primary_first = Number 0 ∷ Keyword True ∷ Keyword False ∷ Keyword Undef ∷ kind.Name ∷ Keyword Result ∷ Symbol Open ∷ []

abbrev pub factor_first : List Kind
factor_first = Symbol Minus ∷ primary_first

abbrev pub term_first : List Kind
term_first = Keyword Not ∷ factor_first

-- what carries on a term that is whole
abbrev pub primary_more : List Kind
primary_more = Symbol Open ∷ []

abbrev pub product_more : List Kind
product_more = Symbol Times ∷ Keyword Div ∷ Keyword Mod ∷ primary_more

abbrev pub sum_more : List Kind
sum_more = Symbol Plus ∷ Symbol Minus ∷ product_more

abbrev pub comparison_more : List Kind
comparison_more = Symbol Equal ∷ Symbol NotEqual ∷ Symbol Less ∷ Symbol AtMost ∷ Symbol Greater ∷ Symbol AtLeast ∷ sum_more

abbrev pub conjunction_more : List Kind
conjunction_more = Keyword And ∷ comparison_more

abbrev pub term_more : List Kind
term_more = Keyword Or ∷ conjunction_more

abbrev terms_more : List Kind
terms_more = Symbol Comma ∷ term_more

-- ---- names

module _ (text : List ℕ) where
  pub exact_name : (n : ℕ) (q : Bool) → IsExact (depth n q) (depth n false) [] (g.name text) (g.name text) (r.name_at text)
  unfolding r.name_at
  exact_name n q = exact_makes (depth n q) (depth n false) [] (token kind.Name) (token kind.Name) (name_at_token text) (expect kind.Name) (exact_plain n q kind.Name alike_name (refl, refl, refl))

  pub has_name : HasText (g.name text)
  has_name = has_makes (token kind.Name) (name_at_token text) (has_token kind.Name)

  pub begins_name : Begins (kind.Name ∷ []) (g.name text)
  begins_name = begins_makes (kind.Name ∷ []) (token kind.Name) (name_at_token text) (begins_token kind.Name)

  -- the word `result`

  pub exact_result_name : (n : ℕ) (q : Bool) → IsExact (depth n q) (depth n false) [] (g.result_name text) (g.result_name text) (r.result_at text)
  unfolding r.result_at
  exact_result_name n q = exact_makes (depth n q) (depth n false) [] (token (Keyword Result)) (token (Keyword Result)) (name_at_token text) (expect (Keyword Result)) (exact_plain n q (Keyword Result) (alike_word Result) (refl, refl, refl))

  pub has_result_name : HasText (g.result_name text)
  has_result_name = has_makes (token (Keyword Result)) (name_at_token text) (has_token (Keyword Result))

  pub begins_result_name : Begins (Keyword Result ∷ []) (g.result_name text)
  begins_result_name = begins_makes (Keyword Result ∷ []) (token (Keyword Result)) (name_at_token text) (begins_token (Keyword Result))

  exact_answer : (n : ℕ) (q : Bool) → IsExact (depth n q) (depth n false) [] (g.answer text) (g.answer text) (r.result_term_at text)
  unfolding g.answer r.result_term_at
  exact_answer n q = exact_makes (depth n q) (depth n false) [] (g.result_name text) (g.result_name text) source.Result (r.result_at text) (exact_result_name n q)

  begins_answer : Begins (Keyword Result ∷ []) (g.answer text)
  unfolding g.answer
  begins_answer = begins_makes (Keyword Result ∷ []) (g.result_name text) source.Result begins_result_name

  pub exact_binding : (n : ℕ) (q : Bool) → IsExact (depth n q) (depth n false) [] (g.binding text) (g.binding text) (r.binding_at text)
  unfolding g.binding r.binding_at
  exact_binding n q = exact_pair (depth n q) (depth n false) (depth n false) [] [] (g.name text) (g.name text) (past (Keyword In) (g.name text)) (past (Keyword In) (g.name text)) (ends_none [] (past (Keyword In) (g.name text))) (has_past (Keyword In) (g.name text) has_name)
      (r.name_at text) (past_of (Keyword In) (r.name_at text)) (exact_name n q) (exact_past n false (depth n false) [] (Keyword In) (alike_word In) (refl, refl, refl) (g.name text) (g.name text) has_name (r.name_at text) (exact_name n false))

  pub has_binding : HasText (g.binding text)
  unfolding g.binding
  has_binding = has_then (g.name text) (past (Keyword In) (g.name text)) has_name (has_past (Keyword In) (g.name text) has_name)

-- ---- primaries and factors: what they begin with, and that each has a text

abbrev number_term : Production source.Term
number_term = number makes (λ v. source.Constant (literal.Number v))

abbrev constant_term : Production source.Term
constant_term = choice constants makes source.Constant

begins_number_term : Begins (Number 0 ∷ []) number_term
begins_number_term = begins_makes (Number 0 ∷ []) number (λ v. source.Constant (literal.Number v)) (begins_number false)

begins_constant_term : Begins (keys constants) constant_term
begins_constant_term = begins_makes (keys constants) (choice constants) source.Constant (begins_choice 0 false constants has_constant constants_plain)

-- what begins with `result` or a parenthesis, what with these or a name, and what with these or a
-- constant
abbrev word_first : List Kind
word_first = Keyword Result ∷ Symbol Open ∷ []

abbrev last_first : List Kind
last_first = kind.Name ∷ word_first

abbrev later_first : List Kind
later_first = Keyword True ∷ Keyword False ∷ Keyword Undef ∷ last_first

module _ (text : List ℕ) (X : Production source.Term) where
  begins_exists : Begins (Keyword Exists ∷ []) (g.exists_term text X)
  unfolding g.exists_term
  begins_exists = begins_makes (Keyword Exists ∷ []) (past (Keyword Exists) (g.binding text then past (Keyword With) X)) (λ v. source.Exists v.0.0 v.0.1 v.1) (begins_past (Keyword Exists) (g.binding text then past (Keyword With) X))

  has_inner : HasText X → HasText (g.inner text X)
  unfolding g.inner
  has_inner some = (some.0, some.1, inr (inr some.2))

  begins_every : Begins (Keyword Forall ∷ []) (g.every_term text X)
  unfolding g.every_term
  begins_every = begins_makes (Keyword Forall ∷ []) (past (Keyword Forall) (g.binding text then past (Keyword Holds) X)) (λ v. source.Every v.0.0 v.0.1 v.1) (begins_past (Keyword Forall) (g.binding text then past (Keyword Holds) X))

  begins_arguments : Begins (Symbol Open ∷ []) (g.arguments text X)
  unfolding g.arguments
  begins_arguments = begins_between (Symbol Open) (Symbol Close) (separated (Symbol Comma) X)

  pub begins_applied : Begins (kind.Name ∷ []) (g.applied text X)
  unfolding g.applied
  begins_applied = begins_makes (kind.Name ∷ []) (g.name text then optional (g.arguments text X)) (λ v. (v.0, terms_of (listed v.1))) (begins_then (kind.Name ∷ []) (g.name text) (optional (g.arguments text X)) (begins_name text))

  pub has_applied : HasText (g.applied text X)
  unfolding g.applied
  has_applied = has_makes (g.name text then optional (g.arguments text X)) (λ v. (v.0, terms_of (listed v.1))) (has_then (g.name text) (optional (g.arguments text X)) (has_name text) ([], None, refl))

  abbrev named_term : Production source.Term
  named_term = g.applied text X makes (λ v. source.Named v.0 v.1)

  abbrev parenthesized : Production source.Term
  parenthesized = between (Symbol Open) (Symbol Close) (g.inner text X)

  begins_named : Begins (kind.Name ∷ []) named_term
  begins_named = begins_makes (kind.Name ∷ []) (g.applied text X) (λ v. source.Named v.0 v.1) begins_applied

  begins_parenthesized : Begins (Symbol Open ∷ []) parenthesized
  begins_parenthesized = begins_between (Symbol Open) (Symbol Close) (g.inner text X)

  abbrev worded : Production source.Term
  worded = g.answer text or parenthesized

  begins_worded : Begins word_first worded
  begins_worded = begins_or (Keyword Result ∷ []) (Symbol Open ∷ []) word_first (g.answer text) parenthesized (begins_answer text) begins_parenthesized refl refl

  begins_last : Begins last_first (named_term or worded)
  begins_last = begins_or (kind.Name ∷ []) word_first last_first named_term worded begins_named begins_worded refl refl

  begins_later : Begins later_first (constant_term or named_term or worded)
  begins_later = begins_or (keys constants) last_first later_first constant_term (named_term or worded) begins_constant_term begins_last refl refl

  begins_primary : Begins primary_first (g.primary text X (g.answer text))
  unfolding g.primary
  begins_primary = begins_or (Number 0 ∷ []) later_first primary_first number_term (constant_term or named_term or worded) begins_number_term begins_later refl refl

  has_primary : HasText (g.primary text X (g.answer text))
  unfolding g.primary
  has_primary = let one = has_makes number (λ v. source.Constant (literal.Number v)) (has_number false) in (one.0, one.1, inl one.2)

  abbrev negative : Production source.Term
  negative = past (Symbol Minus) (g.primary text X (g.answer text)) makes source.Negative

  begins_negative : Begins (Symbol Minus ∷ []) negative
  begins_negative = begins_makes (Symbol Minus ∷ []) (past (Symbol Minus) (g.primary text X (g.answer text))) source.Negative (begins_past (Symbol Minus) (g.primary text X (g.answer text)))

  pub begins_factor : Begins factor_first (g.factor text X (g.answer text))
  unfolding g.factor
  begins_factor = begins_or (Symbol Minus ∷ []) primary_first factor_first negative (g.primary text X (g.answer text)) begins_negative begins_primary refl refl

  pub has_factor : HasText (g.factor text X (g.answer text))
  unfolding g.factor
  has_factor = let one = has_primary in (one.0, one.1, inr one.2)

  -- the same of what they are put together to

  pub has_product : HasText (g.product text X (g.answer text))
  unfolding g.product
  has_product = has_chain products (g.factor text X (g.answer text)) has_factor

  has_sum : HasText (g.sum text X (g.answer text))
  unfolding g.sum
  has_sum = has_chain additions (g.product text X (g.answer text)) has_product

  pub begins_product : Begins factor_first (g.product text X (g.answer text))
  unfolding g.product
  begins_product = begins_chain products factor_first (g.factor text X (g.answer text)) begins_factor

  begins_sum : Begins factor_first (g.sum text X (g.answer text))
  unfolding g.sum
  begins_sum = begins_chain additions factor_first (g.product text X (g.answer text)) begins_product

  abbrev compared : Production (Op × source.Term)
  compared = link comparisons (g.sum text X (g.answer text))

  has_comparison : HasText (g.comparison text X (g.answer text))
  unfolding g.comparison
  has_comparison = has_makes (g.sum text X (g.answer text) then optional compared) (λ v. chain_of (v.0, option_to_list v.1)) (has_then (g.sum text X (g.answer text)) (optional compared) has_sum ([], None, refl))

  begins_comparison : Begins factor_first (g.comparison text X (g.answer text))
  unfolding g.comparison
  begins_comparison = begins_makes factor_first (g.sum text X (g.answer text) then optional compared) (λ v. chain_of (v.0, option_to_list v.1)) (begins_then factor_first (g.sum text X (g.answer text)) (optional compared) begins_sum)

  abbrev denied : Production source.Term
  denied = past (Keyword Not) (g.comparison text X (g.answer text)) makes source.Not

  begins_denied : Begins (Keyword Not ∷ []) denied
  begins_denied = begins_makes (Keyword Not ∷ []) (past (Keyword Not) (g.comparison text X (g.answer text))) source.Not (begins_past (Keyword Not) (g.comparison text X (g.answer text)))

  pub has_negation : HasText (g.negation text X (g.answer text))
  unfolding g.negation
  has_negation = let one = has_comparison in (one.0, one.1, inr one.2)

  pub begins_negation : Begins term_first (g.negation text X (g.answer text))
  unfolding g.negation
  begins_negation = begins_or (Keyword Not ∷ []) factor_first term_first denied (g.comparison text X (g.answer text)) begins_denied begins_comparison refl refl

  pub has_conjunction : HasText (g.conjunction text X (g.answer text))
  unfolding g.conjunction
  has_conjunction = has_chain conjunctions (g.negation text X (g.answer text)) has_negation

  pub begins_conjunction : Begins term_first (g.conjunction text X (g.answer text))
  unfolding g.conjunction
  begins_conjunction = begins_chain conjunctions term_first (g.negation text X (g.answer text)) begins_negation

  pub has_disjunction : HasText (g.term_over text X (g.answer text))
  unfolding g.term_over
  has_disjunction = has_chain disjunctions (g.conjunction text X (g.answer text)) has_conjunction

  pub begins_disjunction : Begins term_first (g.term_over text X (g.answer text))
  unfolding g.term_over
  begins_disjunction = begins_chain disjunctions term_first (g.conjunction text X (g.answer text)) begins_conjunction

-- ---- parentheses

close_fits : (n m : ℕ) (t : Token) → t.kind ≡ Symbol Close → n ≡ suc m → after_token (depth m false) t ≡ depth n false
close_fits n m t k e = rw (k, e) refl

open_fits : (n : ℕ) (q : Bool) (m : ℕ) (t : Token) → t.kind ≡ Symbol Open → n ≡ suc m → after_token (depth n q) t ≡ depth m true
open_fits n true m t k e = rw (k, e) refl
open_fits n false m t k e = rw (k, e) refl

open_opens : (q : Bool) (t : Token) → t.kind ≡ Symbol Open → opens q t.kind ≡ true
open_opens true t k = rw k refl
open_opens false t k = rw k refl

-- `forall` after `(` opens no level
forall_fits : (m : ℕ) (t : Token) → t.kind ≡ Keyword Forall → after_token (depth m true) t ≡ depth m false
forall_fits m t k = rw k refl

-- "(" part ")"
exact_parentheses : {A : Type 0} (n : ℕ) (q : Bool) (more : List Kind) → apart (Symbol Close ∷ []) more ≡ true → (P N : Production A) → HasText P → (f : Reader A) → ((m : ℕ) → n ≡ suc m → IsExact (depth m true) (depth m false) more P N f)
    → IsExact (depth n q) (depth n false) [] (between (Symbol Open) (Symbol Close) P) (between (Symbol Open) (Symbol Close) N) (between_of n (Symbol Open) (Symbol Close) f)
exact_parentheses n q more differ P N some f h = exact_between n q true (Symbol Open) (Symbol Close) (alike_symbol Open) (alike_symbol Close) (open_opens q) (open_fits n q) (close_fits n) more differ P N some f h

-- what is in parentheses, in which n levels may open
module _ (text : List ℕ) (n : ℕ) (deeper : Reader source.Term) (P N : Production source.Term) (some : HasText P) (first : Begins term_first N)
    (exact : (q : Bool) → IsExact (depth n q) (depth n false) term_more P N deeper) where
  exact_terms : IsExact (depth n true) (depth n false) terms_more (separated (Symbol Comma) P) (separated (Symbol Comma) N) (separated_of (Symbol Comma) deeper)
  exact_terms = exact_separated n true term_more terms_more (Symbol Comma) (alike_symbol Comma) (refl, refl, refl) refl refl refl P N some deeper (exact true) (exact false)

  -- the binding of a quantifier and its condition
  exact_bound : (k : Kind) → IsSingle k → IsPlain k → IsExact (depth n false) (depth n false) term_more (g.binding text then past k P) (g.binding text then past k N) (pair_of (r.binding_at text) (past_of k deeper))
  exact_bound k single plain = exact_pair (depth n false) (depth n false) (depth n false) [] term_more (g.binding text) (g.binding text) (past k P) (past k N) (ends_none term_more (past k N)) (has_past k P some)
      (r.binding_at text) (past_of k deeper) (exact_binding text n false) (exact_past n false (depth n false) term_more k single plain P N some deeper (exact false))

  has_bound : (k : Kind) → HasText (g.binding text then past k P)
  has_bound k = has_then (g.binding text) (past k P) (has_binding text) (has_past k P some)

  exact_exists : IsExact (depth n true) (depth n false) term_more (g.exists_term text P) (g.exists_term text N) (r.exists_at text deeper)
  unfolding g.exists_term r.exists_at r.quantified_at
  exact_exists = exact_makes (depth n true) (depth n false) term_more (past (Keyword Exists) (g.binding text then past (Keyword With) P)) (past (Keyword Exists) (g.binding text then past (Keyword With) N)) (λ v. source.Exists v.0.0 v.0.1 v.1)
      (past_of (Keyword Exists) (pair_of (r.binding_at text) (past_of (Keyword With) deeper)))
      (exact_past n true (depth n false) term_more (Keyword Exists) (alike_word Exists) (refl, refl, refl) (g.binding text then past (Keyword With) P) (g.binding text then past (Keyword With) N) (has_bound (Keyword With))
      (pair_of (r.binding_at text) (past_of (Keyword With) deeper)) (exact_bound (Keyword With) (alike_word With) (refl, refl, refl)))

  exact_every : IsExact (depth n true) (depth n false) term_more (g.every_term text P) (g.every_term text N) (r.every_at text deeper)
  unfolding g.every_term r.every_at r.quantified_at
  exact_every = exact_makes (depth n true) (depth n false) term_more (past (Keyword Forall) (g.binding text then past (Keyword Holds) P)) (past (Keyword Forall) (g.binding text then past (Keyword Holds) N)) (λ v. source.Every v.0.0 v.0.1 v.1)
      (past_of (Keyword Forall) (pair_of (r.binding_at text) (past_of (Keyword Holds) deeper)))
      (exact_makes (depth n true) (depth n false) term_more (token (Keyword Forall) then (g.binding text then past (Keyword Holds) P)) (token (Keyword Forall) then (g.binding text then past (Keyword Holds) N)) (λ v. v.1) (pair_of (expect (Keyword Forall)) (pair_of (r.binding_at text) (past_of (Keyword Holds) deeper)))
      (exact_pair (depth n true) (depth n false) (depth n false) [] term_more (token (Keyword Forall)) (token (Keyword Forall)) (g.binding text then past (Keyword Holds) P) (g.binding text then past (Keyword Holds) N) (ends_none term_more (g.binding text then past (Keyword Holds) N)) (has_bound (Keyword Holds))
      (expect (Keyword Forall)) (pair_of (r.binding_at text) (past_of (Keyword Holds) deeper)) (exact_token (depth n true) (depth n false) [] (Keyword Forall) (alike_word Forall) refl (forall_fits n))
      (exact_bound (Keyword Holds) (alike_word Holds) (refl, refl, refl))))

  abbrev every_first : List Kind
  every_first = Keyword Forall ∷ term_first

  exact_inner : IsExact (depth n true) (depth n false) term_more (g.inner text P) (g.inner text N) (r.inner_at text deeper)
  unfolding g.inner r.inner_at
  exact_inner = exact_or (depth n true) (depth n false) term_more term_more term_more (Keyword Exists ∷ []) every_first (g.exists_term text P) (g.every_term text P or P) (g.exists_term text N) (g.every_term text N or N)
      (begins_exists text N) (begins_or (Keyword Forall ∷ []) term_first every_first (g.every_term text N) N (begins_every text N) first refl refl) refl refl refl
      (r.exists_at text deeper) (either_of (Keyword Forall ∷ []) (r.every_at text deeper) deeper) exact_exists
      (exact_or (depth n true) (depth n false) term_more term_more term_more (Keyword Forall ∷ []) term_first (g.every_term text P) P (g.every_term text N) N (begins_every text N) first refl refl refl (r.every_at text deeper) deeper exact_every (exact true))

-- ---- terms. n levels may open; what is in parentheses is P or N.

module _ (text : List ℕ) (n : ℕ) (deeper : Reader source.Term) (P N : Production source.Term) (some : HasText P) (starts : Begins term_first P) (first : Begins term_first N)
    (exact : (m : ℕ) (q : Bool) → n ≡ suc m → IsExact (depth m q) (depth m false) term_more P N deeper) where
  exact_arguments : (q : Bool) → IsExact (depth n q) (depth n false) [] (g.arguments text P) (g.arguments text N) (r.arguments_at text n deeper)
  unfolding g.arguments r.arguments_at
  exact_arguments q = exact_parentheses n q terms_more refl (separated (Symbol Comma) P) (separated (Symbol Comma) N) (has_separated (Symbol Comma) P some) (separated_of (Symbol Comma) deeper)
      (λ m e. exact_terms text m deeper P N some first (λ p. exact m p e))

  exact_parenthesized : (q : Bool) → IsExact (depth n q) (depth n false) [] (parenthesized text P) (parenthesized text N) (r.parenthesized_at text n deeper)
  unfolding r.parenthesized_at
  exact_parenthesized q = exact_parentheses n q term_more refl (g.inner text P) (g.inner text N) (has_inner text P some) (r.inner_at text deeper)
      (λ m e. exact_inner text m deeper P N some first (λ p. exact m p e))

  -- a name and its arguments, for terms and for rules
  pub exact_applied : (q : Bool) → IsExact (depth n q) (depth n false) primary_more (g.applied text P) (g.applied text N) (r.applied_at text n deeper)
  unfolding g.applied r.applied_at
  exact_applied q = exact_makes (depth n q) (depth n false) primary_more (g.name text then optional (g.arguments text P)) (g.name text then optional (g.arguments text N)) (λ v. (v.0, terms_of (listed v.1)))
      (pair_of (r.name_at text) (option_of (Symbol Open ∷ []) (r.arguments_at text n deeper)))
      (exact_pair (depth n q) (depth n false) (depth n false) [] primary_more (g.name text) (g.name text) (optional (g.arguments text P)) (optional (g.arguments text N)) (ends_none primary_more (optional (g.arguments text N))) ([], None, refl)
      (r.name_at text) (option_of (Symbol Open ∷ []) (r.arguments_at text n deeper)) (exact_name text n q)
      (exact_optional (depth n false) [] primary_more (Symbol Open ∷ []) (g.arguments text P) (g.arguments text N) (begins_arguments text N) refl refl (r.arguments_at text n deeper) (exact_arguments false)))

  abbrev named_at : Reader source.Term
  named_at = mapped (λ v. source.Named v.0 v.1) (r.applied_at text n deeper)

  abbrev worded_at : Reader source.Term
  worded_at = either_of (Keyword Result ∷ []) (r.result_term_at text) (r.parenthesized_at text n deeper)

  abbrev last_at : Reader source.Term
  last_at = either_of (kind.Name ∷ []) named_at worded_at

  abbrev constant_at : Reader source.Term
  constant_at = mapped source.Constant (choice_at constants)

  exact_worded : (q : Bool) → IsExact (depth n q) (depth n false) [] (worded text P) (worded text N) worded_at
  exact_worded q = exact_or (depth n q) (depth n false) [] [] [] (Keyword Result ∷ []) (Symbol Open ∷ []) (g.answer text) (parenthesized text P) (g.answer text) (parenthesized text N)
      (begins_answer text) (begins_parenthesized text N) refl refl refl (r.result_term_at text) (r.parenthesized_at text n deeper) (exact_answer text n q) (exact_parenthesized q)

  exact_last : (q : Bool) → IsExact (depth n q) (depth n false) primary_more (named_term text P or worded text P) (named_term text N or worded text N) last_at
  exact_last q = exact_or (depth n q) (depth n false) primary_more [] primary_more (kind.Name ∷ []) word_first (named_term text P) (worded text P) (named_term text N) (worded text N)
      (begins_named text N) (begins_worded text N) refl refl refl named_at worded_at
      (exact_makes (depth n q) (depth n false) primary_more (g.applied text P) (g.applied text N) (λ v. source.Named v.0 v.1) (r.applied_at text n deeper) (exact_applied q)) (exact_worded q)

  exact_later : (q : Bool) → IsExact (depth n q) (depth n false) primary_more (constant_term or named_term text P or worded text P) (constant_term or named_term text N or worded text N) (either_of (keys constants) constant_at last_at)
  exact_later q = exact_or (depth n q) (depth n false) [] primary_more primary_more (keys constants) last_first constant_term (named_term text P or worded text P) constant_term (named_term text N or worded text N)
      begins_constant_term (begins_last text N) refl refl refl constant_at last_at
      (exact_makes (depth n q) (depth n false) [] (choice constants) (choice constants) source.Constant (choice_at constants) (exact_choice n q constants has_constant constants_plain)) (exact_last q)

  exact_primary : (q : Bool) → IsExact (depth n q) (depth n false) primary_more (g.primary text P (g.answer text)) (g.primary text N (g.answer text)) (r.primary_at text n deeper)
  unfolding g.primary r.primary_at
  exact_primary q = exact_or (depth n q) (depth n false) [] primary_more primary_more (Number 0 ∷ []) later_first number_term (constant_term or named_term text P or worded text P) number_term (constant_term or named_term text N or worded text N)
      begins_number_term (begins_later text N) refl refl refl (mapped (λ v. source.Constant (literal.Number v)) (number_at false)) (either_of (keys constants) constant_at last_at)
      (exact_makes (depth n q) (depth n false) [] number number (λ v. source.Constant (literal.Number v)) (number_at false) (exact_number false n q)) (exact_later q)

  pub exact_factor : (q : Bool) → IsExact (depth n q) (depth n false) primary_more (g.factor text P (g.answer text)) (g.factor text N (g.answer text)) (r.factor_at text n deeper)
  unfolding g.factor r.factor_at
  exact_factor q = exact_or (depth n q) (depth n false) primary_more primary_more primary_more (Symbol Minus ∷ []) primary_first (negative text P) (g.primary text P (g.answer text)) (negative text N) (g.primary text N (g.answer text))
      (begins_negative text N) (begins_primary text N) refl refl refl (mapped source.Negative (past_of (Symbol Minus) (r.primary_at text n deeper))) (r.primary_at text n deeper)
      (exact_makes (depth n q) (depth n false) primary_more (past (Symbol Minus) (g.primary text P (g.answer text))) (past (Symbol Minus) (g.primary text N (g.answer text))) source.Negative (past_of (Symbol Minus) (r.primary_at text n deeper))
      (exact_past n q (depth n false) primary_more (Symbol Minus) (alike_symbol Minus) (refl, refl, refl) (g.primary text P (g.answer text)) (g.primary text N (g.answer text)) (has_primary text P) (r.primary_at text n deeper) (exact_primary false)))
      (exact_primary q)

  pub exact_product : (q : Bool) → IsExact (depth n q) (depth n false) product_more (g.product text P (g.answer text)) (g.product text N (g.answer text)) (r.product_at text n deeper)
  unfolding g.product r.product_at
  exact_product = exact_chain n products has_products products_plain primary_more (g.factor text P (g.answer text)) (g.factor text N (g.answer text)) (has_factor text P) (r.factor_at text n deeper) exact_factor product_more refl refl refl

  exact_sum : (q : Bool) → IsExact (depth n q) (depth n false) sum_more (g.sum text P (g.answer text)) (g.sum text N (g.answer text)) (r.sum_at text n deeper)
  unfolding g.sum r.sum_at
  exact_sum = exact_chain n additions has_additions additions_plain product_more (g.product text P (g.answer text)) (g.product text N (g.answer text)) (has_product text P) (r.product_at text n deeper) exact_product sum_more refl refl refl

  abbrev compared_at : Reader (Op × source.Term)
  compared_at = link_of comparisons (r.sum_at text n deeper)

  exact_compared : IsExact (depth n false) (depth n false) comparison_more (optional (compared text P)) (optional (compared text N)) (option_of (keys comparisons) compared_at)
  exact_compared = exact_optional (depth n false) sum_more comparison_more (keys comparisons) (compared text P) (compared text N) (begins_link n comparisons has_comparisons comparisons_plain (g.sum text N (g.answer text))) refl refl compared_at
      (exact_link n comparisons has_comparisons comparisons_plain sum_more (g.sum text P (g.answer text)) (g.sum text N (g.answer text)) (has_sum text P) (r.sum_at text n deeper) exact_sum)

  exact_comparison : (q : Bool) → IsExact (depth n q) (depth n false) comparison_more (g.comparison text P (g.answer text)) (g.comparison text N (g.answer text)) (r.comparison_at text n deeper)
  unfolding g.comparison r.comparison_at
  exact_comparison q = exact_makes (depth n q) (depth n false) comparison_more (g.sum text P (g.answer text) then optional (compared text P)) (g.sum text N (g.answer text) then optional (compared text N)) (λ v. chain_of (v.0, option_to_list v.1)) (pair_of (r.sum_at text n deeper) (option_of (keys comparisons) compared_at))
      (exact_pair (depth n q) (depth n false) (depth n false) sum_more comparison_more (g.sum text P (g.answer text)) (g.sum text N (g.answer text)) (optional (compared text P)) (optional (compared text N))
      (optional_ends sum_more comparison_more (keys comparisons) (compared text N) (ends_by sum_more comparison_more (keys comparisons) (compared text N) (begins_link n comparisons has_comparisons comparisons_plain (g.sum text N (g.answer text))) refl) refl)
      ([], None, refl) (r.sum_at text n deeper) (option_of (keys comparisons) compared_at) (exact_sum q) exact_compared)

  pub exact_negation : (q : Bool) → IsExact (depth n q) (depth n false) comparison_more (g.negation text P (g.answer text)) (g.negation text N (g.answer text)) (r.negation_at text n deeper)
  unfolding g.negation r.negation_at
  exact_negation q = exact_or (depth n q) (depth n false) comparison_more comparison_more comparison_more (Keyword Not ∷ []) factor_first (denied text P) (g.comparison text P (g.answer text)) (denied text N) (g.comparison text N (g.answer text))
      (begins_denied text N) (begins_comparison text N) refl refl refl (mapped source.Not (past_of (Keyword Not) (r.comparison_at text n deeper))) (r.comparison_at text n deeper)
      (exact_makes (depth n q) (depth n false) comparison_more (past (Keyword Not) (g.comparison text P (g.answer text))) (past (Keyword Not) (g.comparison text N (g.answer text))) source.Not (past_of (Keyword Not) (r.comparison_at text n deeper))
      (exact_past n q (depth n false) comparison_more (Keyword Not) (alike_word Not) (refl, refl, refl) (g.comparison text P (g.answer text)) (g.comparison text N (g.answer text)) (has_comparison text P) (r.comparison_at text n deeper) (exact_comparison false)))
      (exact_comparison q)

  pub exact_conjunction : (q : Bool) → IsExact (depth n q) (depth n false) conjunction_more (g.conjunction text P (g.answer text)) (g.conjunction text N (g.answer text)) (r.conjunction_at text n deeper)
  unfolding g.conjunction r.conjunction_at
  exact_conjunction = exact_chain n conjunctions has_conjunctions conjunctions_plain comparison_more (g.negation text P (g.answer text)) (g.negation text N (g.answer text)) (has_negation text P) (r.negation_at text n deeper) exact_negation conjunction_more refl refl refl

  pub exact_disjunction : (q : Bool) → IsExact (depth n q) (depth n false) term_more (g.term_over text P (g.answer text)) (g.term_over text N (g.answer text)) (r.disjunction_at text n deeper)
  unfolding g.term_over r.disjunction_at
  exact_disjunction = exact_chain n disjunctions has_disjunctions disjunctions_plain conjunction_more (g.conjunction text P (g.answer text)) (g.conjunction text N (g.answer text)) (has_conjunction text P) (r.conjunction_at text n deeper) exact_conjunction term_more refl refl refl

-- ---- terms in which parentheses nest so deep at most

pub begins_term : (text : List ℕ) (n : ℕ) → Begins term_first (g.term_within text n)
unfolding g.term_within
begins_term text zero = begins_disjunction text nothing
begins_term text (suc n) = begins_disjunction text (g.term_within text n)

pub has_term : (text : List ℕ) (n : ℕ) → HasText (g.term_within text n)
unfolding g.term_within
has_term text zero = has_disjunction text nothing
has_term text (suc n) = has_disjunction text (g.term_within text n)
