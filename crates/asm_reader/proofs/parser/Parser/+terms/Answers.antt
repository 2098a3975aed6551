use Rattle.std.proofs.Common.{◌≡◌, refl, sym, ap, subst, ◌∙◌, true, false, List, Ok, Err}
use Rattle.std.proofs.lemmas.Result.{err_from_is_err_and}
use Rattle.asm_state.specs.declared.operation.Op.{Op}
use Rattle.asm_syntax.specs.declared.token.Kind.{Kind}
use Rattle.asm_syntax.specs.declared.token.Kind.TheVariants.{Symbol}
use Rattle.asm_syntax.specs.declared.token.Token.{Token}
use Rattle.asm_syntax.specs.declared.token.Symbol.TheVariants.{Comma}
use Rattle.asm_syntax.specs.SourceTree as source
use Rattle.asm_syntax.specs.code.Views.{term_of}
use Rattle.asm_reader.specs.declared.terms.Precedence.TheVariants as precedence
use Rattle.asm_reader.specs.Kinds.{begins, keys}
use Rattle.asm_reader.specs.code.ViewsOfParts.{link_of}
use Rattle.asm_reader.specs.code.Steps.{ReaderResult, Reader, Reads, and_then, below, each_of, repeated_of, choice_at}
use Rattle.asm_reader.specs.code.TermReading.{arguments_at, term_at, table_of, operand_at, link_at, chain_from_at, compared_at}
use Rattle.asm_reader.proofs.Loops.{with_front, turn_seen, nothing_before, no_turn, bad_turn}
use Rattle.asm_reader.proofs.LoopsConsume.{term_consumes}
use Rattle.asm_reader.proofs.Separated.{so_far, next_seen, all_read, past_stops, past_consumes}
use Rattle.asm_reader.proofs.TermLoops.{links_consume}
use Rattle.asm_reader.proofs.TermSteps.{below_less, term_is, chain_is, link_is, link_fails, links_done, links_fail, no_links, first_fails, chain_goes_on, side_fails, comparison_goes_on, term_stops, term_is_factor, term_goes_on}
use Rattle.asm_reader.proofs.parser.Parser.+terms.Goals as goal

pub arguments-returns-in_err-all : goal.arguments-returns-in_err-all
unfolding arguments_at
arguments-returns-in_err-all t c =
    let p = err_from_is_err_and c.from_residual-in_err-all.result c.from_residual-in_err-all.ensures.1 in record {
      read = rw (p.1, p.2) (λ reason is. rw (below_less (term_at c.args.self.now.text.now) c.args.levels c.in_ok-enter.ensures.left, c.in_ok-enter.ensures.read, c.in_err-all.ensures.read reason is) refl);
      text = cc;
    }

pub arguments-returns-in_err-expect : goal.arguments-returns-in_err-expect
unfolding arguments_at
arguments-returns-in_err-expect t c =
    let p = err_from_is_err_and c.from_residual-in_err-expect.result c.from_residual-in_err-expect.ensures.1 in record {
      read = rw (p.1, p.2) (λ reason is. rw (below_less (term_at c.args.self.now.text.now) c.args.levels c.in_ok-enter.ensures.left, c.in_ok-enter.ensures.read, c.in_ok-all.ensures.read, c.in_err-expect.ensures.read reason is) refl);
      text = cc;
    }

pub arguments-returns : goal.arguments-returns
unfolding arguments_at
arguments-returns t c = record {
  read = rw (below_less (term_at c.args.self.now.text.now) c.args.levels c.in_ok-enter.ensures.left, c.in_ok-enter.ensures.read, c.in_ok-all.ensures.read, c.in_ok-expect.ensures.read) refl;
  text = cc;
}

pub terms-loop-self-smaller : goal.terms-loop-self-smaller
terms-loop-self-smaller t c =
    let old = c.args.self.now in
    let l = c.loop-self in
    let next = rw l.invariant.text at c.in_ok-next.ensures.read in
    past_consumes (Symbol Comma) (term_at old.text.now c.args.levels) (term_consumes old.text.now c.args.levels) l.self.tokens.rest.now c.next_term.new.self.tokens.rest.now (term_of c.in_ok-next.next) next

pub terms-loop-self-preserved : goal.terms-loop-self-preserved
terms-loop-self-preserved t c =
    let old = c.args.self.now in
    let l = c.loop-self in
    let next = rw l.invariant.text at c.in_ok-next.ensures.read in record {
      read = next_seen term_of (Symbol Comma) (term_at old.text.now c.args.levels) (term_consumes old.text.now c.args.levels) l.all.items c.push-in-loop-self.new.self.items
          l.self.tokens.rest.now c.next_term.new.self.tokens.rest.now c.in_ok-next.next (so_far term_of (Symbol Comma) (term_at old.text.now c.args.levels) c.push.new.self.items c.term.new.self.tokens.rest.now)
          c.in_ok-push-2.ensures.items c.loop-self-test.ensures next l.invariant.read;
      text = c.in_ok-next.ensures.text ∙ l.invariant.text;
    }

pub terms-returns-in_err-next : goal.terms-returns-in_err-next
terms-returns-in_err-next t c =
    let p = err_from_is_err_and c.from_residual-in_err-next.result c.from_residual-in_err-next.ensures.1 in
    let old = c.args.self.now in
    let l = c.loop-self in record {
      read = rw (p.1, p.2) (λ reason is.
          let next = rw l.invariant.text at (c.in_err-next.ensures.read reason is) in
          past_stops term_of (Symbol Comma) (term_at old.text.now c.args.levels) c.in_ok-all.all.items c.push.new.self.items l.all.items
          old.tokens.rest.now c.term.new.self.tokens.rest.now l.self.tokens.rest.now c.in_ok-first.first reason
          c.in_ok-all.ensures.items c.in_ok-push.ensures.items c.in_ok-first.ensures.read c.loop-self-test.ensures next l.invariant.read);
      text = cc;
    }

pub terms-returns : goal.terms-returns
terms-returns t c =
    let old = c.args.self.now in
    let l = c.loop-self in record {
      read = all_read term_of (Symbol Comma) (term_at old.text.now c.args.levels) c.in_ok-all.all.items c.push.new.self.items l.all.items old.tokens.rest.now c.term.new.self.tokens.rest.now l.self.tokens.rest.now c.in_ok-first.first
          c.in_ok-all.ensures.items c.in_ok-push.ensures.items c.in_ok-first.ensures.read c.loop-self-test.ensures l.invariant.read;
      text = cc;
    }

pub links-loop-of-smaller : goal.links-loop-of-smaller
links-loop-of-smaller t c =
    let old = c.args.self.now in
    let l = c.loop-of in
    let read : choice_at (table_of c.args.of) l.self.tokens.rest.now ≡ Ok (c.in_ok-operator.operator, c.choice.new.self.rest.now) = ap (λ (w : List (Kind × Op)). choice_at w l.self.tokens.rest.now) (sym c.operators-in-loop-of.ensures) ∙ c.in_ok-operator.ensures.read in
    let next = rw l.invariant.text at c.in_ok-next.ensures.read in
    links_consume old.text.now c.args.levels c.args.of l.self.tokens.rest.now c.operand.new.self.tokens.rest.now (link_of (c.in_ok-operator.operator, c.in_ok-next.next))
    (link_is (table_of c.args.of) (operand_at old.text.now c.args.levels (below (term_at old.text.now) c.args.levels) c.args.of) l.self.tokens.rest.now c.choice.new.self.rest.now c.operand.new.self.tokens.rest.now
    c.in_ok-operator.operator (term_of c.in_ok-next.next) read next)

pub links-loop-of-preserved : goal.links-loop-of-preserved
links-loop-of-preserved t c =
    let old = c.args.self.now in
    let l = c.loop-of in
    let test : true ≡ begins (keys c.operators.result.now) l.self.tokens.rest.now = c.loop-of-test.ensures in
    let read : choice_at (table_of c.args.of) l.self.tokens.rest.now ≡ Ok (c.in_ok-operator.operator, c.choice.new.self.rest.now) = ap (λ (w : List (Kind × Op)). choice_at w l.self.tokens.rest.now) (sym c.operators-in-loop-of.ensures) ∙ c.in_ok-operator.ensures.read in
    let next = rw l.invariant.text at c.in_ok-next.ensures.read in record {
      read = turn_seen link_of (keys (table_of c.args.of)) (link_at old.text.now c.args.levels (below (term_at old.text.now) c.args.levels) c.args.of) (links_consume old.text.now c.args.levels c.args.of)
          l.rest.items c.push.new.self.items l.self.tokens.rest.now (c.in_ok-operator.operator, c.in_ok-next.next) c.operand.new.self.tokens.rest.now
          (with_front (each_of link_of c.in_ok-rest.rest) (repeated_of (keys (table_of c.args.of)) (link_at old.text.now c.args.levels (below (term_at old.text.now) c.args.levels) c.args.of) old.tokens.rest.now))
          c.in_ok-push.ensures.items (test ∙ ap (λ (w : List (Kind × Op)). begins (keys w) l.self.tokens.rest.now) c.operators.ensures)
          (link_is (table_of c.args.of) (operand_at old.text.now c.args.levels (below (term_at old.text.now) c.args.levels) c.args.of) l.self.tokens.rest.now c.choice.new.self.rest.now c.operand.new.self.tokens.rest.now
          c.in_ok-operator.operator (term_of c.in_ok-next.next) read next) l.invariant.read;
      text = c.in_ok-next.ensures.text ∙ l.invariant.text;
    }

pub links-returns-in_err-next : goal.links-returns-in_err-next
links-returns-in_err-next t c =
    let p = err_from_is_err_and c.from_residual-in_err-next.result c.from_residual-in_err-next.ensures.1 in
    let old = c.args.self.now in
    let l = c.loop-of in
    let test : true ≡ begins (keys c.operators.result.now) l.self.tokens.rest.now = c.loop-of-test.ensures in
    let read : choice_at (table_of c.args.of) l.self.tokens.rest.now ≡ Ok (c.in_ok-operator.operator, c.choice.new.self.rest.now) = ap (λ (w : List (Kind × Op)). choice_at w l.self.tokens.rest.now) (sym c.operators-in-loop-of.ensures) ∙ c.in_ok-operator.ensures.read in record {
      read = rw (p.1, p.2) (λ reason is.
          let next = rw l.invariant.text at (c.in_err-next.ensures.read reason is) in
          let one = link_fails (table_of c.args.of) (operand_at old.text.now c.args.levels (below (term_at old.text.now) c.args.levels) c.args.of) l.self.tokens.rest.now c.choice.new.self.rest.now c.in_ok-operator.operator reason read next in
          sym (nothing_before link_of (keys (table_of c.args.of)) (link_at old.text.now c.args.levels (below (term_at old.text.now) c.args.levels) c.args.of) c.in_ok-rest.rest.items
          (repeated_of (keys (table_of c.args.of)) (link_at old.text.now c.args.levels (below (term_at old.text.now) c.args.levels) c.args.of) old.tokens.rest.now) c.in_ok-rest.ensures.items)
          ∙ bad_turn (keys (table_of c.args.of)) (link_at old.text.now c.args.levels (below (term_at old.text.now) c.args.levels) c.args.of) (each_of link_of l.rest) l.self.tokens.rest.now reason
          (with_front (each_of link_of c.in_ok-rest.rest) (repeated_of (keys (table_of c.args.of)) (link_at old.text.now c.args.levels (below (term_at old.text.now) c.args.levels) c.args.of) old.tokens.rest.now))
          (sym (test ∙ ap (λ (w : List (Kind × Op)). begins (keys w) l.self.tokens.rest.now) c.operators.ensures)) one l.invariant.read);
      text = cc;
    }

pub links-returns : goal.links-returns
links-returns t c =
    let old = c.args.self.now in
    let l = c.loop-of in
    let test : false ≡ begins (keys c.operators.result.now) l.self.tokens.rest.now = c.loop-of-test.ensures in record {
      read = sym (nothing_before link_of (keys (table_of c.args.of)) (link_at old.text.now c.args.levels (below (term_at old.text.now) c.args.levels) c.args.of) c.in_ok-rest.rest.items
          (repeated_of (keys (table_of c.args.of)) (link_at old.text.now c.args.levels (below (term_at old.text.now) c.args.levels) c.args.of) old.tokens.rest.now) c.in_ok-rest.ensures.items)
          ∙ no_turn (keys (table_of c.args.of)) (link_at old.text.now c.args.levels (below (term_at old.text.now) c.args.levels) c.args.of) (each_of link_of l.rest) l.self.tokens.rest.now
          (with_front (each_of link_of c.in_ok-rest.rest) (repeated_of (keys (table_of c.args.of)) (link_at old.text.now c.args.levels (below (term_at old.text.now) c.args.levels) c.args.of) old.tokens.rest.now))
          (sym (test ∙ ap (λ (w : List (Kind × Op)). begins (keys w) l.self.tokens.rest.now) c.operators.ensures)) l.invariant.read;
      text = cc;
    }

pub longer_chain-returns-in_err-rest : goal.longer_chain-returns-in_err-rest
longer_chain-returns-in_err-rest t c =
    let p = err_from_is_err_and c.from_residual.result c.from_residual.ensures.1 in
    let old = c.args.self.now in record {
      read = rw (p.1, p.2) (λ reason is. links_fail (table_of c.args.of) (operand_at old.text.now c.args.levels (below (term_at old.text.now) c.args.levels) c.args.of) old.tokens.rest.now (term_of c.args.first) reason (c.in_err-rest.ensures.read reason is));
      text = cc;
    }

pub longer_chain-returns : goal.longer_chain-returns
longer_chain-returns t c =
    let old = c.args.self.now in record {
      read = rw c.in_ok-joined.ensures (links_done (table_of c.args.of) (operand_at old.text.now c.args.levels (below (term_at old.text.now) c.args.levels) c.args.of) old.tokens.rest.now c.links.new.self.tokens.rest.now (term_of c.args.first) (each_of link_of c.in_ok-rest.rest) c.in_ok-rest.ensures.read);
      text = cc;
    }

pub chain_from-returns-then-not-sees_in : goal.chain_from-returns-then-not-sees_in
chain_from-returns-then-not-sees_in t c =
    let old = c.args.self.now in record {
      read = no_links (table_of c.args.of) (operand_at old.text.now c.args.levels (below (term_at old.text.now) c.args.levels) c.args.of) old.tokens.rest.now (term_of c.args.first) (ap (λ (w : List (Kind × Op)). begins (keys w) old.tokens.rest.now) (sym c.operators.ensures) ∙ sym c.if-not-sees_in.ensures);
      text = cc;
    }

pub chain-returns-in_err-first : goal.chain-returns-in_err-first
chain-returns-in_err-first t c =
    let p = err_from_is_err_and c.from_residual.result c.from_residual.ensures.1 in
    let old = c.args.self.now in record {
      read = rw (p.1, p.2) (λ reason is. rw (chain_is old.text.now c.args.levels (below (term_at old.text.now) c.args.levels) c.args.of)
          (first_fails (table_of c.args.of) (operand_at old.text.now c.args.levels (below (term_at old.text.now) c.args.levels) c.args.of) old.tokens.rest.now reason (c.in_err-first.ensures.read reason is)));
      text = cc;
    }

pub chain-returns : goal.chain-returns
chain-returns t c =
    let old = c.args.self.now in
    let last = rw c.in_ok-first.ensures.text at c.chain_from.ensures.read in record {
      read = subst (λ (w : ReaderResult source.Term). Reads term_of w c.chain_from.result c.chain_from.new.self.tokens.rest.now) (sym (ap (λ (f : Reader source.Term). f old.tokens.rest.now) (chain_is old.text.now c.args.levels (below (term_at old.text.now) c.args.levels) c.args.of) ∙ chain_goes_on (table_of c.args.of) (operand_at old.text.now c.args.levels (below (term_at old.text.now) c.args.levels) c.args.of) old.tokens.rest.now c.operand.new.self.tokens.rest.now (term_of c.in_ok-first.first) c.in_ok-first.ensures.read)) last;
      text = cc;
    }

pub comparison-returns-in_err-first : goal.comparison-returns-in_err-first
comparison-returns-in_err-first t c =
    let p = err_from_is_err_and c.from_residual.result c.from_residual.ensures.1 in
    let old = c.args.self.now in record {
      read = rw (p.1, p.2) (λ reason is. side_fails old.text.now c.args.levels (below (term_at old.text.now) c.args.levels) old.tokens.rest.now reason (c.in_err-first.ensures.read reason is));
      text = cc;
    }

pub comparison-returns : goal.comparison-returns
comparison-returns t c =
    let old = c.args.self.now in
    let last = rw c.in_ok-first.ensures.text at c.compared.ensures.read in record {
      read = subst (λ (w : ReaderResult source.Term). Reads term_of w c.compared.result c.compared.new.self.tokens.rest.now) (sym (comparison_goes_on old.text.now c.args.levels (below (term_at old.text.now) c.args.levels) old.tokens.rest.now c.chain.new.self.tokens.rest.now (term_of c.in_ok-first.first) c.in_ok-first.ensures.read)) last;
      text = cc;
    }

-- five steps one after the other, of which the first two read something
from_third : {A : Type 0} (f g h k l : A → Reader A) (x y z : A) (ts ts1 ts2 : List Token) (third : ReaderResult A) → f x ts ≡ Ok (y, ts1) → g y ts1 ≡ Ok (z, ts2) → h z ts2 ≡ third
    → and_then (and_then (and_then (and_then (and_then (Ok (x, ts)) f) g) h) k) l ≡ and_then (and_then third k) l
from_third f g h k l x y z ts ts1 ts2 third one two three = rw (one, two, three) refl

pub term_from-returns-in_err-comparison : goal.term_from-returns-in_err-comparison
term_from-returns-in_err-comparison t c =
    let p = err_from_is_err_and c.from_residual-in_err-comparison.result c.from_residual-in_err-comparison.ensures.1 in
    let old = c.args.self.now in
    let chained = chain_from_at old.text.now c.args.levels (below (term_at old.text.now) c.args.levels) in
    let sum = rw c.in_ok-product.ensures.text at c.in_ok-sum.ensures.read in
    let same = c.in_ok-sum.ensures.text ∙ c.in_ok-product.ensures.text in record {
      read = rw (p.1, p.2) (λ reason is.
          let comparison = rw same at (c.in_err-comparison.ensures.read reason is) in
          from_third (chained precedence.Product) (chained precedence.Sum) (compared_at old.text.now c.args.levels (below (term_at old.text.now) c.args.levels)) (chained precedence.Conjunction) (chained precedence.Disjunction)
          (term_of c.args.factor) (term_of c.in_ok-product.product) (term_of c.in_ok-sum.sum) old.tokens.rest.now c.chain_from.new.self.tokens.rest.now c.chain_from-2.new.self.tokens.rest.now (Err reason)
          c.in_ok-product.ensures.read sum comparison);
      text = cc;
    }

pub term_from-returns-in_err-conjunction : goal.term_from-returns-in_err-conjunction
term_from-returns-in_err-conjunction t c =
    let p = err_from_is_err_and c.from_residual-in_err-conjunction.result c.from_residual-in_err-conjunction.ensures.1 in
    let old = c.args.self.now in
    let chained = chain_from_at old.text.now c.args.levels (below (term_at old.text.now) c.args.levels) in
    let sum = rw c.in_ok-product.ensures.text at c.in_ok-sum.ensures.read in
    let same = c.in_ok-sum.ensures.text ∙ c.in_ok-product.ensures.text in
    let comparison = rw same at c.in_ok-comparison.ensures.read in
    let still = c.in_ok-comparison.ensures.text ∙ same in record {
      read = rw (p.1, p.2) (λ reason is.
          let conjunction = rw still at (c.in_err-conjunction.ensures.read reason is) in
          from_third (chained precedence.Product) (chained precedence.Sum) (compared_at old.text.now c.args.levels (below (term_at old.text.now) c.args.levels)) (chained precedence.Conjunction) (chained precedence.Disjunction)
          (term_of c.args.factor) (term_of c.in_ok-product.product) (term_of c.in_ok-sum.sum) old.tokens.rest.now c.chain_from.new.self.tokens.rest.now c.chain_from-2.new.self.tokens.rest.now
          (Ok (term_of c.in_ok-comparison.comparison, c.compared.new.self.tokens.rest.now)) c.in_ok-product.ensures.read sum comparison
          ∙ ap (λ (w : ReaderResult source.Term). and_then w (chained precedence.Disjunction)) conjunction);
      text = cc;
    }

pub term_from-returns : goal.term_from-returns
term_from-returns t c =
    let old = c.args.self.now in
    let chained = chain_from_at old.text.now c.args.levels (below (term_at old.text.now) c.args.levels) in
    let sum = rw c.in_ok-product.ensures.text at c.in_ok-sum.ensures.read in
    let same = c.in_ok-sum.ensures.text ∙ c.in_ok-product.ensures.text in
    let comparison = rw same at c.in_ok-comparison.ensures.read in
    let still = c.in_ok-comparison.ensures.text ∙ same in
    let conjunction = rw still at c.in_ok-conjunction.ensures.read in
    let last = rw (c.in_ok-conjunction.ensures.text ∙ still) at c.chain_from-4.ensures.read in record {
      read = let carried = from_third (chained precedence.Product) (chained precedence.Sum) (compared_at old.text.now c.args.levels (below (term_at old.text.now) c.args.levels)) (chained precedence.Conjunction) (chained precedence.Disjunction)
          (term_of c.args.factor) (term_of c.in_ok-product.product) (term_of c.in_ok-sum.sum) old.tokens.rest.now c.chain_from.new.self.tokens.rest.now c.chain_from-2.new.self.tokens.rest.now
          (Ok (term_of c.in_ok-comparison.comparison, c.compared.new.self.tokens.rest.now)) c.in_ok-product.ensures.read sum comparison
          ∙ ap (λ (w : ReaderResult source.Term). and_then w (chained precedence.Disjunction)) conjunction in
          subst (λ (w : ReaderResult source.Term). Reads term_of w c.chain_from-4.result c.chain_from-4.new.self.tokens.rest.now) (sym carried) last;
      text = cc;
    }

pub term-returns-then-sees : goal.term-returns-then-sees
term-returns-then-sees t c =
    let old = c.args.self.now in record {
      read = subst (λ (w : ReaderResult source.Term). Reads term_of w c.chain.result c.chain.new.self.tokens.rest.now) (sym (ap (λ (f : Reader source.Term). f old.tokens.rest.now) (term_is old.text.now c.args.levels))) c.chain.ensures.read;
      text = cc;
    }

pub term-returns-in_err-first : goal.term-returns-in_err-first
term-returns-in_err-first t c =
    let p = err_from_is_err_and c.from_residual.result c.from_residual.ensures.1 in
    let old = c.args.self.now in record {
      read = rw (p.1, p.2) (λ reason is. term_stops old.text.now c.args.levels old.tokens.rest.now reason (sym c.if-sees.ensures) (c.in_err-first.ensures.read reason is));
      text = cc;
    }

pub term-returns-then-not-sees_operator : goal.term-returns-then-not-sees_operator
term-returns-then-not-sees_operator t c =
    let old = c.args.self.now in record {
      read = term_is_factor old.text.now c.args.levels old.tokens.rest.now c.factor.new.self.tokens.rest.now (term_of c.in_ok-first.first) (sym c.if-sees.ensures) c.in_ok-first.ensures.read (sym c.if-not-sees_operator.ensures);
      text = cc;
    }

pub term-returns : goal.term-returns
term-returns t c =
    let old = c.args.self.now in
    let last = rw c.in_ok-first.ensures.text at c.term_from.ensures.read in record {
      read = subst (λ (w : ReaderResult source.Term). Reads term_of w c.term_from.result c.term_from.new.self.tokens.rest.now) (sym (term_goes_on old.text.now c.args.levels old.tokens.rest.now c.factor.new.self.tokens.rest.now (term_of c.in_ok-first.first) (sym c.if-sees.ensures) c.in_ok-first.ensures.read)) last;
      text = cc;
    }
