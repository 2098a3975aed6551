-- Free. The readers in the loops that read terms take a token at least.
use Rattle.std.proofs.Common.{◌≡◌, ℕ, zero, suc, ◌+◌, Bool, false, List, arith, subst}
use Rattle.asm_syntax.specs.SourceTree as source
use Rattle.asm_reader.specs.declared.terms.Precedence.{Precedence}
use Rattle.asm_reader.specs.declared.terms.Precedence.TheVariants as precedence
use Rattle.asm_reader.specs.Productions.{Production}
use Rattle.asm_reader.specs.code.Steps.{Reader, below}
use Rattle.asm_reader.specs.TermGrammar as g
use Rattle.asm_reader.specs.TermGrammar.{disjunctions, conjunctions, additions, products, term_within, any_term}
use Rattle.asm_reader.specs.code.TermReading as r
use Rattle.asm_reader.specs.code.TermReading.{term_at}
use Rattle.asm_reader.proofs.Loops.{Consumes}
use Rattle.asm_reader.proofs.ExactLemmas.Readers.{IsExact}
use Rattle.asm_reader.proofs.ExactLemmas.ExactTokens.{depth}
use Rattle.asm_reader.proofs.ExactLemmas.Choices.{disjunctions_plain, has_disjunctions, conjunctions_plain, has_conjunctions, additions_plain, has_additions, products_plain, has_products}
use Rattle.asm_reader.proofs.ExactLemmas.Chains.{link_consumes}
use Rattle.asm_reader.proofs.ExactLemmas.TermExact as e
use Rattle.asm_reader.proofs.ExactLemmas.TermExact.{primary_more, product_more, comparison_more, conjunction_more, term_more, has_term, begins_term}
use Rattle.asm_reader.proofs.WiderLemmas.TermWider.{begins_any_term, exact_any_term}

module _ (text : List ℕ) where
  exact_at : (n : ℕ) (q : Bool) → IsExact (depth n q) (depth n false) term_more (term_within text (n + 1)) (any_term text) (term_at text n)
  exact_at n q =
      let sum_is : suc (n + 0) ≡ n + 1 = omega arith in
      subst (λ v. IsExact (depth n q) (depth n false) term_more (term_within text v) (any_term text) (term_at text n)) sum_is (exact_any_term text n 0 q)

  -- the reader of what is in parentheses, when n levels may open
  below_exact : (n m : ℕ) (q : Bool) → n ≡ suc m → IsExact (depth m q) (depth m false) term_more (term_within text n) (any_term text) (below (term_at text) n)
  below_exact zero m q e = absurd (omega arith)
  below_exact (suc j) m q e =
      let same : j ≡ m = omega arith in
      let one_more : j + 1 ≡ suc j = omega arith in
      subst (λ v. IsExact (depth v q) (depth v false) term_more (term_within text (suc j)) (any_term text) (term_at text j)) same
      (subst (λ v. IsExact (depth j q) (depth j false) term_more (term_within text v) (any_term text) (term_at text j)) one_more (exact_at j q))

  module _ (n : ℕ) where
    abbrev within : Production source.Term
    within = term_within text n

    abbrev deeper : Reader source.Term
    deeper = below (term_at text) n

    abbrev any : Production source.Term
    any = any_term text

    pub links_consume : (c : Precedence) → Consumes (r.link_at text n deeper c)
    links_consume precedence.Disjunction = link_consumes n disjunctions has_disjunctions disjunctions_plain conjunction_more (g.conjunction text within (g.answer text)) (g.conjunction text any (g.answer text)) (e.has_conjunction text within) (r.conjunction_at text n deeper)
        (e.exact_conjunction text n deeper within any (has_term text n) (begins_term text n) (begins_any_term text) (below_exact n))
    links_consume precedence.Conjunction = link_consumes n conjunctions has_conjunctions conjunctions_plain comparison_more (g.negation text within (g.answer text)) (g.negation text any (g.answer text)) (e.has_negation text within) (r.negation_at text n deeper)
        (e.exact_negation text n deeper within any (has_term text n) (begins_term text n) (begins_any_term text) (below_exact n))
    links_consume precedence.Sum = link_consumes n additions has_additions additions_plain product_more (g.product text within (g.answer text)) (g.product text any (g.answer text)) (e.has_product text within) (r.product_at text n deeper)
        (e.exact_product text n deeper within any (has_term text n) (begins_term text n) (begins_any_term text) (below_exact n))
    links_consume precedence.Product = link_consumes n products has_products products_plain primary_more (g.factor text within (g.answer text)) (g.factor text any (g.answer text)) (e.has_factor text within) (r.factor_at text n deeper)
        (e.exact_factor text n deeper within any (has_term text n) (begins_term text n) (begins_any_term text) (below_exact n))
