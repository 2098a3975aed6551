-- Free. Terms over more terms in parentheses are more terms.
use Rattle.std.proofs.Common.{◌≡◌, ℕ, zero, suc, ◌+◌, Bool, false, List, arith, subst, inl, inr}
use Rattle.std.specs.Prelude.{option_to_list}
use Rattle.asm_syntax.specs.declared.token.Kind.{Kind}
use Rattle.asm_syntax.specs.declared.token.Kind.TheVariants.{Symbol, Keyword}
use Rattle.asm_syntax.specs.declared.token.Symbol.TheVariants.{Open, Close, Comma, Minus}
use Rattle.asm_syntax.specs.declared.token.Keyword.TheVariants.{Not, Exists, Forall, With, Holds}
use Rattle.asm_syntax.specs.declared.token.Token.{Token}
use Rattle.asm_syntax.specs.SourceTree as source
use Rattle.asm_syntax.specs.code.Views.{terms_of}
use Rattle.asm_reader.specs.Productions.{Production, ◌then◌, ◌or◌, optional, ◌makes◌, nothing, past, separated}
use Rattle.asm_reader.specs.code.Steps.{Reader, refuse}
use Rattle.asm_reader.specs.TermGrammar as g
use Rattle.asm_reader.specs.TermGrammar.{any_term, chain_of, listed, disjunctions, conjunctions, comparisons, additions, products}
use Rattle.asm_reader.specs.code.TermReading as r
use Rattle.asm_reader.proofs.Lists.{within_self}
use Rattle.asm_reader.proofs.ExactLemmas.Readers.{IsExact, Begins, exact_wider}
use Rattle.asm_reader.proofs.ExactLemmas.ExactTokens.{depth}
use Rattle.asm_reader.proofs.WiderLemmas.WiderParts.{Includes, same_part, wider_then, wider_or, wider_optional, wider_makes, wider_past, wider_separated, wider_between}
use Rattle.asm_reader.proofs.ExactLemmas.Chains.{link, wider_link, wider_chain}
use Rattle.asm_reader.proofs.ExactLemmas.TermExact.{term_more, term_first, has_term, begins_term, exact_disjunction}

module _ (text : List ℕ) (X Y : Production source.Term) (h : Includes X Y) where
  wider_arguments : Includes (g.arguments text X) (g.arguments text Y)
  unfolding g.arguments
  wider_arguments = wider_between (Symbol Open) (Symbol Close) (separated (Symbol Comma) X) (separated (Symbol Comma) Y) (wider_separated (Symbol Comma) X Y h)

  pub wider_applied : Includes (g.applied text X) (g.applied text Y)
  unfolding g.applied
  wider_applied = wider_makes (g.name text then optional (g.arguments text X)) (g.name text then optional (g.arguments text Y)) (λ v. (v.0, terms_of (listed v.1)))
      (wider_then (g.name text) (g.name text) (optional (g.arguments text X)) (optional (g.arguments text Y)) (same_part (g.name text)) (wider_optional (g.arguments text X) (g.arguments text Y) wider_arguments))

  wider_bound : (k : Kind) → Includes (g.binding text then past k X) (g.binding text then past k Y)
  wider_bound k = wider_then (g.binding text) (g.binding text) (past k X) (past k Y) (same_part (g.binding text)) (wider_past k X Y h)

  wider_exists : Includes (g.exists_term text X) (g.exists_term text Y)
  unfolding g.exists_term
  wider_exists = wider_makes (past (Keyword Exists) (g.binding text then past (Keyword With) X)) (past (Keyword Exists) (g.binding text then past (Keyword With) Y)) (λ v. source.Exists v.0.0 v.0.1 v.1)
      (wider_past (Keyword Exists) (g.binding text then past (Keyword With) X) (g.binding text then past (Keyword With) Y) (wider_bound (Keyword With)))

  wider_every : Includes (g.every_term text X) (g.every_term text Y)
  unfolding g.every_term
  wider_every = wider_makes (past (Keyword Forall) (g.binding text then past (Keyword Holds) X)) (past (Keyword Forall) (g.binding text then past (Keyword Holds) Y)) (λ v. source.Every v.0.0 v.0.1 v.1)
      (wider_past (Keyword Forall) (g.binding text then past (Keyword Holds) X) (g.binding text then past (Keyword Holds) Y) (wider_bound (Keyword Holds)))

  wider_inner : Includes (g.inner text X) (g.inner text Y)
  unfolding g.inner
  wider_inner = wider_or (g.exists_term text X) (g.exists_term text Y) (g.every_term text X or X) (g.every_term text Y or Y) wider_exists (wider_or (g.every_term text X) (g.every_term text Y) X Y wider_every h)

  -- and over more words that are terms
  module _ (V W : Production source.Term) (i : Includes V W) where
    wider_primary : Includes (g.primary text X V) (g.primary text Y W)
    unfolding g.primary
    wider_primary ts x (inl p) = inl p
    wider_primary ts x (inr (inl p)) = inr (inl p)
    wider_primary ts x (inr (inr (inl p))) = inr (inr (inl (wider_makes (g.applied text X) (g.applied text Y) (λ v. source.Named v.0 v.1) wider_applied ts x p)))
    wider_primary ts x (inr (inr (inr (inl p)))) = inr (inr (inr (inl (i ts x p))))
    wider_primary ts x (inr (inr (inr (inr p)))) = inr (inr (inr (inr (wider_between (Symbol Open) (Symbol Close) (g.inner text X) (g.inner text Y) wider_inner ts x p))))

    wider_factor : Includes (g.factor text X V) (g.factor text Y W)
    unfolding g.factor
    wider_factor = wider_or (past (Symbol Minus) (g.primary text X V) makes source.Negative) (past (Symbol Minus) (g.primary text Y W) makes source.Negative) (g.primary text X V) (g.primary text Y W)
        (wider_makes (past (Symbol Minus) (g.primary text X V)) (past (Symbol Minus) (g.primary text Y W)) source.Negative (wider_past (Symbol Minus) (g.primary text X V) (g.primary text Y W) wider_primary)) wider_primary

    wider_sum : Includes (g.sum text X V) (g.sum text Y W)
    unfolding g.sum g.product
    wider_sum = wider_chain additions (g.product text X V) (g.product text Y W) (wider_chain products (g.factor text X V) (g.factor text Y W) wider_factor)

    wider_comparison : Includes (g.comparison text X V) (g.comparison text Y W)
    unfolding g.comparison
    wider_comparison = wider_makes (g.sum text X V then optional (link comparisons (g.sum text X V))) (g.sum text Y W then optional (link comparisons (g.sum text Y W))) (λ v. chain_of (v.0, option_to_list v.1))
        (wider_then (g.sum text X V) (g.sum text Y W) (optional (link comparisons (g.sum text X V))) (optional (link comparisons (g.sum text Y W))) wider_sum
        (wider_optional (link comparisons (g.sum text X V)) (link comparisons (g.sum text Y W)) (wider_link comparisons (g.sum text X V) (g.sum text Y W) wider_sum)))

    wider_negation : Includes (g.negation text X V) (g.negation text Y W)
    unfolding g.negation
    wider_negation = wider_or (past (Keyword Not) (g.comparison text X V) makes source.Not) (past (Keyword Not) (g.comparison text Y W) makes source.Not) (g.comparison text X V) (g.comparison text Y W)
        (wider_makes (past (Keyword Not) (g.comparison text X V)) (past (Keyword Not) (g.comparison text Y W)) source.Not (wider_past (Keyword Not) (g.comparison text X V) (g.comparison text Y W) wider_comparison)) wider_comparison

    pub wider_disjunction : Includes (g.term_over text X V) (g.term_over text Y W)
    unfolding g.term_over g.conjunction
    wider_disjunction = wider_chain disjunctions (g.conjunction text X V) (g.conjunction text Y W) (wider_chain conjunctions (g.negation text X V) (g.negation text Y W) wider_negation)

-- ---- terms at any depth

module _ (text : List ℕ) where
  opened_at : (ts : List Token) (x : source.Term) (n : ℕ) → g.term_within text n ts x → g.term_over text (any_term text) (g.answer text) ts x
  unfolding g.term_within
  opened_at ts x zero p = wider_disjunction text nothing (any_term text) (λ us y v. absurd v) (g.answer text) (g.answer text) (same_part (g.answer text)) ts x p
  opened_at ts x (suc n) p = wider_disjunction text (g.term_within text n) (any_term text) (λ us y v. (n, v)) (g.answer text) (g.answer text) (same_part (g.answer text)) ts x p

  pub begins_any_term : Begins term_first (any_term text)
  begins_any_term ts x p = begins_term text p.0 ts x p.1

  -- what a disjunction over any terms is exact for, terms are too
  closed : (n d : ℕ) (q : Bool) (deeper : Reader source.Term) → ((m : ℕ) (p : Bool) → n ≡ suc m → IsExact (depth m p) (depth m false) term_more (g.term_within text (n + d)) (any_term text) deeper)
      → IsExact (depth n q) (depth n false) term_more (g.term_over text (g.term_within text (n + d)) (g.answer text)) (any_term text) (r.disjunction_at text n deeper)
  closed n d q deeper h = exact_wider (depth n q) (depth n false) term_more term_more (g.term_over text (g.term_within text (n + d)) (g.answer text)) (g.term_over text (any_term text) (g.answer text)) (g.term_over text (g.term_within text (n + d)) (g.answer text)) (any_term text)
      (λ _ _ p. p) (λ ts x p. opened_at ts x p.0 p.1) (within_self term_more) (r.disjunction_at text n deeper)
      (exact_disjunction text n deeper (g.term_within text (n + d)) (any_term text) (has_term text (n + d)) (begins_term text (n + d)) begins_any_term h q)

  pub deeper : (n m d : ℕ) (p : Bool) (f : Reader source.Term) → suc n ≡ suc m → IsExact (depth n p) (depth n false) term_more (g.term_within text (suc (n + d))) (any_term text) f
      → IsExact (depth m p) (depth m false) term_more (g.term_within text (suc n + d)) (any_term text) f
  deeper n m d p f e h =
      let same : n ≡ m = omega arith in
      let sum_is : suc (n + d) ≡ suc n + d = omega arith in
      subst (λ j. IsExact (depth j p) (depth j false) term_more (g.term_within text (suc n + d)) (any_term text) f) same (subst (λ j. IsExact (depth n p) (depth n false) term_more (g.term_within text j) (any_term text) f) sum_is h)

  -- If n levels may open, the reader of terms takes terms that nest one level deeper at most, and
  -- what it refuses is no term at any depth.
  pub exact_any_term : (n d : ℕ) (q : Bool) → IsExact (depth n q) (depth n false) term_more (g.term_within text (suc (n + d))) (any_term text) (r.term_at text n)
  unfolding g.term_within r.term_at
  exact_any_term zero d q = closed zero d q refuse (λ m p e. absurd (omega arith))
  exact_any_term (suc n) d q = closed (suc n) d q (r.term_at text n) (λ m p e. deeper n m d p (r.term_at text n) e (exact_any_term n d p))
