-- Free. The plain term of each variant of the code's terms.
use Rattle.std.proofs.Common.{◌≡◌, ◌∙◌, ap, map, Box, Vec, Global}
use Rattle.asm_state.specs.declared.operation.Op.{Op}
use Rattle.asm_syntax.specs.Tree as tree
use Rattle.asm_syntax.specs.PlainTree.{literal_value, plain_term, plain_terms, plain_links}
use Rattle.asm_syntax.specs.code.ViewCases.{term_of-Constant, term_of-Named, term_of-Chain, term_of-Not, term_of-Negative, term_of-Exists, term_of-Every, term_of-Result}
use Rattle.asm_syntax.specs.code.Views.{term_of, terms_of, links_of}
use Rattle.asm_syntax.specs.declared.name.Name.{Name}
use Rattle.asm_syntax.specs.declared.term.Literal.{Literal}
use Rattle.asm_syntax.specs.declared.term.Term.{Term}
use Rattle.asm_syntax.specs.declared.term.Term.TheVariants as term
use Rattle.asm_meaning.specs.code.TreeWeights.{link_of}

abbrev plain : Term → tree.Term
plain t = plain_term (term_of t)

pub plain_terms-constant : (t : Term) (l : Literal) → t ≡ term.Constant l → plain_term (term_of t) ≡ tree.Constant (literal_value l)
plain_terms-constant t l is = ap plain is ∙ ap plain_term (term_of-Constant l)

pub plain_terms-named : (t : Term) (x : Name) (ts : Vec Term Global) → t ≡ term.Named x ts
    → plain_term (term_of t) ≡ tree.Named x.text (plain_terms (terms_of (map term_of ts.items)))
plain_terms-named t x ts is = ap plain is ∙ ap plain_term (term_of-Named x ts)

pub plain_terms-chain : (t : Term) (first : Box Term Global) (rest : Vec (Op × Term) Global) → t ≡ term.Chain first rest
    → plain_term (term_of t) ≡ tree.Chain (plain_term (term_of first.value)) (plain_links (links_of (map link_of rest.items)))
plain_terms-chain t first rest is = ap plain is ∙ ap plain_term (term_of-Chain first rest)

pub plain_terms-of_not : (t : Term) (inner : Box Term Global) → t ≡ term.Not inner → plain_term (term_of t) ≡ tree.Not (plain_term (term_of inner.value))
plain_terms-of_not t inner is = ap plain is ∙ ap plain_term (term_of-Not inner)

pub plain_terms-negative : (t : Term) (inner : Box Term Global) → t ≡ term.Negative inner
    → plain_term (term_of t) ≡ tree.Negative (plain_term (term_of inner.value))
plain_terms-negative t inner is = ap plain is ∙ ap plain_term (term_of-Negative inner)

pub plain_terms-exists : (t : Term) (x over : Name) (test : Box Term Global) → t ≡ term.Exists x over test
    → plain_term (term_of t) ≡ tree.Exists x.text over.text (plain_term (term_of test.value))
plain_terms-exists t x over test is = ap plain is ∙ ap plain_term (term_of-Exists x over test)

pub plain_terms-every : (t : Term) (x over : Name) (test : Box Term Global) → t ≡ term.Every x over test
    → plain_term (term_of t) ≡ tree.Every x.text over.text (plain_term (term_of test.value))
plain_terms-every t x over test is = ap plain is ∙ ap plain_term (term_of-Every x over test)

pub plain_terms-answer : (t : Term) (x : Name) → t ≡ term.Result x → plain_term (term_of t) ≡ tree.Named x.text tree.no_terms
plain_terms-answer t x is = ap plain is ∙ ap plain_term (term_of-Result x)
