-- Free. The readers of terms, as the code's functions call one another.
use Rattle.std.proofs.Common.{◌≡◌, ℕ, zero, suc, ◌-◌, ◌<◌, false, List, [], ◌∷◌, Option, Ok, Err, refl, ap, ◌∙◌, arith}
use Rattle.std.specs.Prelude.{option_to_list}
use Rattle.asm_state.specs.declared.operation.Op.{Op}
use Rattle.asm_syntax.specs.declared.token.Kind.{Kind}
use Rattle.asm_syntax.specs.declared.token.Kind.TheVariants.{Keyword}
use Rattle.asm_syntax.specs.declared.token.Keyword.TheVariants.{Not}
use Rattle.asm_syntax.specs.declared.token.Token.{Token}
use Rattle.asm_syntax.specs.SourceTree as source
use Rattle.asm_reader.specs.declared.error.ReadError.{ReadError}
use Rattle.asm_reader.specs.declared.terms.Precedence.{Precedence}
use Rattle.asm_reader.specs.declared.terms.Precedence.TheVariants as precedence
use Rattle.asm_reader.specs.Kinds.{begins, keys}
use Rattle.asm_reader.specs.code.Steps.{ReaderResult, Reader, and_then, below, pair_of, option_of, turns, repeated_of, choice_at}
use Rattle.asm_reader.specs.TermGrammar.{chain_of, disjunctions, conjunctions, comparisons, additions, products}
use Rattle.asm_reader.specs.code.TermReading.{table_of, operators, chain_at, links_behind, operand_at, chain_of_at, chain_from_at, compared_at, carried_on, factor_at, product_at, sum_at, comparison_at, negation_at, conjunction_at, disjunction_at, term_at}
use Rattle.asm_reader.proofs.Lists.{within_begins}

pub below_less : {A : Type 0} (f : ℕ → Reader A) (n : ℕ) → 0 < n → below f n ≡ f (n - 1)
below_less f zero h = absurd (omega arith)
below_less f (suc n) h = rw one_less refl
  where
    one_less : suc n - 1 ≡ n
    one_less = omega arith

pub term_is : (text : List ℕ) (n : ℕ) → term_at text n ≡ disjunction_at text n (below (term_at text) n)
unfolding term_at
term_is text zero = refl
term_is text (suc n) = refl

pub chain_is : (text : List ℕ) (n : ℕ) (deeper : Reader source.Term) (c : Precedence) → chain_of_at text n deeper c ≡ chain_at (table_of c) (operand_at text n deeper c)
unfolding product_at sum_at conjunction_at disjunction_at
chain_is text n deeper precedence.Disjunction = refl
chain_is text n deeper precedence.Conjunction = refl
chain_is text n deeper precedence.Sum = refl
chain_is text n deeper precedence.Product = refl

-- ---- chains, over the reader of their members

module _ (table : List (Kind × Op)) (f : Reader source.Term) where
  abbrev pub link : Reader (Op × source.Term)
  link = pair_of (choice_at table) f

  pub link_is : (ts ts1 ts2 : List Token) (o : Op) (x : source.Term) → choice_at table ts ≡ Ok (o, ts1) → f ts1 ≡ Ok (x, ts2) → link ts ≡ Ok ((o, x), ts2)
  link_is ts ts1 ts2 o x p q = rw (p, q) refl

  pub link_fails : (ts ts1 : List Token) (o : Op) (e : ReadError) → choice_at table ts ≡ Ok (o, ts1) → f ts1 ≡ Err e → link ts ≡ Err e
  link_fails ts ts1 o e p q = rw (p, q) refl

  -- a chain whose first member is read goes on after it
  chain_joined : (x : source.Term) (links : ReaderResult (List (Op × source.Term)))
      → and_then {A = source.Term × List (Op × source.Term)} (and_then links (λ y after. Ok ((x, y), after))) (λ r rest. Ok (chain_of r, rest)) ≡ and_then links (λ y after. Ok (chain_of (x, y), after))
  chain_joined x (Ok r) = refl
  chain_joined x (Err e) = refl

  chain_split : (first : ReaderResult source.Term)
      → and_then {A = source.Term × List (Op × source.Term)} (and_then first (λ x rest. and_then (repeated_of (keys table) link rest) (λ y after. Ok ((x, y), after)))) (λ r rest. Ok (chain_of r, rest)) ≡ and_then first (links_behind table f)
  chain_split (Ok r) = chain_joined r.0 (repeated_of (keys table) link r.1)
  chain_split (Err e) = refl

  pub chain_splits : (ts : List Token) → chain_at table f ts ≡ and_then (f ts) (links_behind table f)
  chain_splits ts = chain_split (f ts)

  pub chain_goes_on : (ts ts1 : List Token) (x : source.Term) → f ts ≡ Ok (x, ts1) → chain_at table f ts ≡ links_behind table f x ts1
  chain_goes_on ts ts1 x p = chain_splits ts ∙ ap (λ (a : ReaderResult source.Term). and_then a (links_behind table f)) p

  pub first_fails : (ts : List Token) (e : ReadError) → f ts ≡ Err e → chain_at table f ts ≡ Err e
  first_fails ts e p = rw p refl

  pub links_done : (ts ts1 : List Token) (x : source.Term) (links : List (Op × source.Term)) → repeated_of (keys table) link ts ≡ Ok (links, ts1) → links_behind table f x ts ≡ Ok (chain_of (x, links), ts1)
  links_done ts ts1 x links p = rw p refl

  pub links_fail : (ts : List Token) (x : source.Term) (e : ReadError) → repeated_of (keys table) link ts ≡ Err e → links_behind table f x ts ≡ Err e
  links_fail ts x e p = rw p refl

  pub no_links : (ts : List Token) (x : source.Term) → begins (keys table) ts ≡ false → links_behind table f x ts ≡ Ok (x, ts)
  unfolding turns
  no_links [] x p = refl
  no_links (t ∷ ts) x p = rw p refl

-- ---- terms whose first factor is read

module _ (text : List ℕ) (n : ℕ) (deeper : Reader source.Term) where
  compared_joined : (x : source.Term) (answer : ReaderResult (Option (Op × source.Term)))
      → and_then {A = source.Term × Option (Op × source.Term)} (and_then answer (λ y after. Ok ((x, y), after))) (λ r rest. Ok (chain_of (r.0, option_to_list r.1), rest)) ≡ and_then answer (λ y after. Ok (chain_of (x, option_to_list y), after))
  compared_joined x (Ok r) = refl
  compared_joined x (Err e) = refl

  abbrev side : Reader (Option (Op × source.Term))
  side = option_of (keys comparisons) (pair_of (choice_at comparisons) (sum_at text n deeper))

  comparison_split : (first : ReaderResult source.Term)
      → and_then {A = source.Term × Option (Op × source.Term)} (and_then first (λ x rest. and_then (side rest) (λ y after. Ok ((x, y), after)))) (λ r rest. Ok (chain_of (r.0, option_to_list r.1), rest)) ≡ and_then first (compared_at text n deeper)
  comparison_split (Ok r) = compared_joined r.0 (side r.1)
  comparison_split (Err e) = refl

  pub comparison_splits : (ts : List Token) → comparison_at text n deeper ts ≡ and_then (sum_at text n deeper ts) (compared_at text n deeper)
  unfolding comparison_at
  comparison_splits ts = comparison_split (sum_at text n deeper ts)

  pub comparison_goes_on : (ts ts1 : List Token) (x : source.Term) → sum_at text n deeper ts ≡ Ok (x, ts1) → comparison_at text n deeper ts ≡ compared_at text n deeper x ts1
  comparison_goes_on ts ts1 x p = comparison_splits ts ∙ ap (λ (a : ReaderResult source.Term). and_then a (compared_at text n deeper)) p

  pub side_fails : (ts : List Token) (e : ReadError) → sum_at text n deeper ts ≡ Err e → comparison_at text n deeper ts ≡ Err e
  side_fails ts e p = comparison_splits ts ∙ ap (λ (a : ReaderResult source.Term). and_then a (compared_at text n deeper)) p

  pub not_compared : (ts : List Token) (x : source.Term) → begins (keys comparisons) ts ≡ false → compared_at text n deeper x ts ≡ Ok (x, ts)
  not_compared ts x p = rw p refl

  negation_is : (ts : List Token) → begins (Keyword Not ∷ []) ts ≡ false → negation_at text n deeper ts ≡ comparison_at text n deeper ts
  unfolding negation_at
  negation_is ts p = rw p refl

  abbrev from : Precedence → source.Term → Reader source.Term
  from c = chain_from_at text n deeper c

  product_splits : (ts : List Token) → product_at text n deeper ts ≡ and_then (factor_at text n deeper ts) (from precedence.Product)
  unfolding product_at
  product_splits ts = chain_splits products (factor_at text n deeper) ts

  sum_splits : (ts : List Token) → sum_at text n deeper ts ≡ and_then (product_at text n deeper ts) (from precedence.Sum)
  unfolding sum_at
  sum_splits ts = chain_splits additions (product_at text n deeper) ts

  conjunction_splits : (ts : List Token) → conjunction_at text n deeper ts ≡ and_then (negation_at text n deeper ts) (from precedence.Conjunction)
  unfolding conjunction_at
  conjunction_splits ts = chain_splits conjunctions (negation_at text n deeper) ts

  disjunction_splits : (ts : List Token) → disjunction_at text n deeper ts ≡ and_then (conjunction_at text n deeper ts) (from precedence.Disjunction)
  unfolding disjunction_at
  disjunction_splits ts = chain_splits disjunctions (conjunction_at text n deeper) ts

  abbrev then_from : Precedence → ReaderResult source.Term → ReaderResult source.Term
  then_from c a = and_then a (from c)

  disjunction_goes_on : (ts : List Token) → begins (Keyword Not ∷ []) ts ≡ false → disjunction_at text n deeper ts ≡ carried_on text n deeper (factor_at text n deeper ts)
  disjunction_goes_on ts p =
      let sum_is : sum_at text n deeper ts ≡ then_from precedence.Sum (then_from precedence.Product (factor_at text n deeper ts)) = sum_splits ts ∙ ap (then_from precedence.Sum) (product_splits ts) in
      let negation_from : negation_at text n deeper ts ≡ and_then (then_from precedence.Sum (then_from precedence.Product (factor_at text n deeper ts))) (compared_at text n deeper)
      = negation_is ts p ∙ comparison_splits ts ∙ ap (λ (a : ReaderResult source.Term). and_then a (compared_at text n deeper)) sum_is in
      disjunction_splits ts ∙ ap (then_from precedence.Disjunction) (conjunction_splits ts ∙ ap (then_from precedence.Conjunction) negation_from)

  -- without an operator after it the factor is the term
  carried_nowhere : (ts : List Token) (x : source.Term) → begins operators ts ≡ false → carried_on text n deeper (Ok (x, ts)) ≡ Ok (x, ts)
  carried_nowhere ts x p = rw (
    no_links products (factor_at text n deeper) ts x (within_begins (keys products) operators ts refl p),
    no_links additions (product_at text n deeper) ts x (within_begins (keys additions) operators ts refl p),
    not_compared ts x (within_begins (keys comparisons) operators ts refl p),
    no_links conjunctions (negation_at text n deeper) ts x (within_begins (keys conjunctions) operators ts refl p),
    no_links disjunctions (conjunction_at text n deeper) ts x (within_begins (keys disjunctions) operators ts refl p),
  ) refl

module _ (text : List ℕ) (n : ℕ) where
  abbrev factor : Reader source.Term
  factor = factor_at text n (below (term_at text) n)

  term_splits : (ts : List Token) → begins (Keyword Not ∷ []) ts ≡ false → term_at text n ts ≡ carried_on text n (below (term_at text) n) (factor ts)
  term_splits ts p = ap (λ (f : Reader source.Term). f ts) (term_is text n) ∙ disjunction_goes_on text n (below (term_at text) n) ts p

  pub term_goes_on : (ts ts1 : List Token) (x : source.Term) → begins (Keyword Not ∷ []) ts ≡ false → factor ts ≡ Ok (x, ts1) → term_at text n ts ≡ carried_on text n (below (term_at text) n) (Ok (x, ts1))
  term_goes_on ts ts1 x p read = term_splits ts p ∙ ap (carried_on text n (below (term_at text) n)) read

  pub term_stops : (ts : List Token) (e : ReadError) → begins (Keyword Not ∷ []) ts ≡ false → factor ts ≡ Err e → term_at text n ts ≡ Err e
  term_stops ts e p read = term_splits ts p ∙ ap (carried_on text n (below (term_at text) n)) read

  pub term_is_factor : (ts ts1 : List Token) (x : source.Term) → begins (Keyword Not ∷ []) ts ≡ false → factor ts ≡ Ok (x, ts1) → begins operators ts1 ≡ false → term_at text n ts ≡ Ok (x, ts1)
  term_is_factor ts ts1 x p read none = term_goes_on ts ts1 x p read ∙ carried_nowhere text n (below (term_at text) n) ts1 x none
