use Rattle.std.proofs.Common.{◌≡◌, refl, sym, ap, ◌∙◌, true, false, List, Err}
use Rattle.std.proofs.lemmas.Result.{err_from_is_err_and}
use Rattle.asm_syntax.specs.declared.token.Kind.{Kind}
use Rattle.asm_syntax.specs.code.Views.{rule_of}
use Rattle.asm_syntax.specs.code.ViewCases.{rule_of-Par, rule_of-Seq, rule_of-Let, rule_of-Forall, rule_of-Iterate, rule_of-While}
use Rattle.asm_reader.specs.Kinds.{begins}
use Rattle.asm_reader.specs.code.Steps.{below, each_of, repeated_of}
use Rattle.asm_reader.specs.code.TermReading.{term_at}
use Rattle.asm_reader.specs.code.RuleReading.{rule_starts, rule_at, par_at, seq_at}
use Rattle.asm_reader.proofs.Loops.{with_front, turn_seen, one_before, no_turn, bad_turn}
use Rattle.asm_reader.proofs.TermSteps.{below_less}
use Rattle.asm_reader.proofs.RuleSteps.{several_is}
use Rattle.asm_reader.proofs.Headers.{if_splits, let_splits, forall_splits, choose_splits, iterate_splits, while_splits}
use Rattle.asm_reader.proofs.LoopsConsume.{rule_consumes}
use Rattle.asm_reader.proofs.Views.{if_is, choose_is}
use Rattle.asm_reader.proofs.parser.Parser.+rules.Goals as goal

pub several-loop-self-smaller : goal.several-loop-self-smaller
several-loop-self-smaller t c =
    let old = c.args.self.now in
    let l = c.loop-self in
    let next = rw l.invariant.text at c.in_ok-next.ensures.read in
    rule_consumes old.text.now c.args.levels l.self.tokens.rest.now c.rule-in-loop-self.new.self.tokens.rest.now (rule_of c.in_ok-next.next) next

pub several-loop-self-preserved : goal.several-loop-self-preserved
several-loop-self-preserved t c =
    let old = c.args.self.now in
    let l = c.loop-self in
    let test : true ≡ begins c.rule_starts.result.now l.self.tokens.rest.now = c.loop-self-test.ensures in
    let next = rw l.invariant.text at c.in_ok-next.ensures.read in record {
      read = turn_seen rule_of rule_starts (rule_at old.text.now c.args.levels) (rule_consumes old.text.now c.args.levels) l.all.items c.push-in-loop-self.new.self.items l.self.tokens.rest.now c.in_ok-next.next c.rule-in-loop-self.new.self.tokens.rest.now
          (with_front (each_of rule_of c.push.new.self) (repeated_of rule_starts (rule_at old.text.now c.args.levels) c.rule.new.self.tokens.rest.now))
          c.in_ok-push-2.ensures.items (test ∙ ap (λ (w : List Kind). begins w l.self.tokens.rest.now) c.rule_starts.ensures) next l.invariant.read;
      text = c.in_ok-next.ensures.text ∙ l.invariant.text;
    }

pub several-returns-in_err-next : goal.several-returns-in_err-next
several-returns-in_err-next t c =
    let p = err_from_is_err_and c.from_residual-in_err-next.result c.from_residual-in_err-next.ensures.1 in
    let old = c.args.self.now in
    let l = c.loop-self in
    let test : true ≡ begins c.rule_starts.result.now l.self.tokens.rest.now = c.loop-self-test.ensures in record {
      read = rw (p.1, p.2) (λ reason is.
          let next = rw l.invariant.text at (c.in_err-next.ensures.read reason is) in
          several_is rule_starts (rule_at old.text.now c.args.levels) old.tokens.rest.now c.rule.new.self.tokens.rest.now (rule_of c.in_ok-first.first) c.in_ok-first.ensures.read
          ∙ sym (one_before rule_of rule_starts (rule_at old.text.now c.args.levels) c.new-all.result.items c.push.new.self.items c.in_ok-first.first (repeated_of rule_starts (rule_at old.text.now c.args.levels) c.rule.new.self.tokens.rest.now) c.new-all.ensures.items c.in_ok-push.ensures.items)
          ∙ bad_turn rule_starts (rule_at old.text.now c.args.levels) (each_of rule_of l.all) l.self.tokens.rest.now reason (with_front (each_of rule_of c.push.new.self) (repeated_of rule_starts (rule_at old.text.now c.args.levels) c.rule.new.self.tokens.rest.now))
          (sym (test ∙ ap (λ (w : List Kind). begins w l.self.tokens.rest.now) c.rule_starts.ensures)) next l.invariant.read);
      text = cc;
    }

pub several-returns : goal.several-returns
several-returns t c =
    let old = c.args.self.now in
    let l = c.loop-self in
    let test : false ≡ begins c.rule_starts.result.now l.self.tokens.rest.now = c.loop-self-test.ensures in record {
      read = several_is rule_starts (rule_at old.text.now c.args.levels) old.tokens.rest.now c.rule.new.self.tokens.rest.now (rule_of c.in_ok-first.first) c.in_ok-first.ensures.read
          ∙ sym (one_before rule_of rule_starts (rule_at old.text.now c.args.levels) c.new-all.result.items c.push.new.self.items c.in_ok-first.first (repeated_of rule_starts (rule_at old.text.now c.args.levels) c.rule.new.self.tokens.rest.now) c.new-all.ensures.items c.in_ok-push.ensures.items)
          ∙ no_turn rule_starts (rule_at old.text.now c.args.levels) (each_of rule_of l.all) l.self.tokens.rest.now (with_front (each_of rule_of c.push.new.self) (repeated_of rule_starts (rule_at old.text.now c.args.levels) c.rule.new.self.tokens.rest.now))
          (sym (test ∙ ap (λ (w : List Kind). begins w l.self.tokens.rest.now) c.rule_starts.ensures)) l.invariant.read;
      text = cc;
    }

pub par-returns-in_err-expect : goal.par-returns-in_err-expect
unfolding par_at
par-returns-in_err-expect t c =
    let p = err_from_is_err_and c.from_residual-in_err-expect.result c.from_residual-in_err-expect.ensures.1 in record {
      read = rw (p.1, p.2) (λ reason is. rw (below_less (rule_at c.args.self.now.text.now) c.args.levels c.in_ok-enter.ensures.left, c.in_ok-enter.ensures.read, c.in_ok-all.ensures.read, c.in_err-expect.ensures.read reason is) (refl {a = Err reason}));
      text = cc;
    }

pub par-returns : goal.par-returns
unfolding par_at
par-returns t c = record {
  read = rw (below_less (rule_at c.args.self.now.text.now) c.args.levels c.in_ok-enter.ensures.left, c.in_ok-enter.ensures.read, c.in_ok-all.ensures.read, c.in_ok-expect.ensures.read) (rw (rule_of-Par c.in_ok-all.all) refl);
  text = cc;
}

pub seq-returns-in_err-expect : goal.seq-returns-in_err-expect
unfolding seq_at
seq-returns-in_err-expect t c =
    let p = err_from_is_err_and c.from_residual-in_err-expect.result c.from_residual-in_err-expect.ensures.1 in record {
      read = rw (p.1, p.2) (λ reason is. rw (below_less (rule_at c.args.self.now.text.now) c.args.levels c.in_ok-enter.ensures.left, c.in_ok-enter.ensures.read, c.in_ok-all.ensures.read, c.in_err-expect.ensures.read reason is) (refl {a = Err reason}));
      text = cc;
    }

pub seq-returns : goal.seq-returns
unfolding seq_at
seq-returns t c = record {
  read = rw (below_less (rule_at c.args.self.now.text.now) c.args.levels c.in_ok-enter.ensures.left, c.in_ok-enter.ensures.read, c.in_ok-all.ensures.read, c.in_ok-expect.ensures.read) (rw (rule_of-Seq c.in_ok-all.all) refl);
  text = cc;
}

pub conditional-returns-in_err-test : goal.conditional-returns-in_err-test
conditional-returns-in_err-test t c =
    let p = err_from_is_err_and c.from_residual-in_err-test.result c.from_residual-in_err-test.ensures.1 in
    let old = c.args.self.now in record {
      read = rw (p.1, p.2) (λ reason is. rw (if_splits old.text.now c.args.levels (below (term_at old.text.now) c.args.levels) (below (rule_at old.text.now) c.args.levels) old.tokens.rest.now, below_less (term_at old.text.now) c.args.levels c.in_ok-enter.ensures.left, below_less (rule_at old.text.now) c.args.levels c.in_ok-enter.ensures.left, c.in_ok-enter.ensures.read, c.in_err-test.ensures.read reason is) (refl {a = Err reason}));
      text = cc;
    }

pub conditional-returns-in_err-yes : goal.conditional-returns-in_err-yes
conditional-returns-in_err-yes t c =
    let p = err_from_is_err_and c.from_residual-in_err-yes.result c.from_residual-in_err-yes.ensures.1 in
    let old = c.args.self.now in record {
      read = rw (p.1, p.2) (λ reason is.
          let yes_read = rw c.in_ok-test.ensures.text at (c.in_err-yes.ensures.read reason is) in
          rw (if_splits old.text.now c.args.levels (below (term_at old.text.now) c.args.levels) (below (rule_at old.text.now) c.args.levels) old.tokens.rest.now, below_less (term_at old.text.now) c.args.levels c.in_ok-enter.ensures.left, below_less (rule_at old.text.now) c.args.levels c.in_ok-enter.ensures.left, c.in_ok-enter.ensures.read, c.in_ok-test.ensures.read, yes_read) (refl {a = Err reason}));
      text = cc;
    }

pub conditional-returns-in_err-no : goal.conditional-returns-in_err-no
conditional-returns-in_err-no t c =
    let p = err_from_is_err_and c.from_residual-in_err-no.result c.from_residual-in_err-no.ensures.1 in
    let old = c.args.self.now in
    let yes_read = rw c.in_ok-test.ensures.text at c.in_ok-yes.ensures.read in
    let same = c.in_ok-yes.ensures.text ∙ c.in_ok-test.ensures.text in record {
      read = rw (p.1, p.2) (λ reason is.
          let no_read = rw same at (c.in_err-no.ensures.read reason is) in
          rw (if_splits old.text.now c.args.levels (below (term_at old.text.now) c.args.levels) (below (rule_at old.text.now) c.args.levels) old.tokens.rest.now, below_less (term_at old.text.now) c.args.levels c.in_ok-enter.ensures.left, below_less (rule_at old.text.now) c.args.levels c.in_ok-enter.ensures.left, c.in_ok-enter.ensures.read, c.in_ok-test.ensures.read, yes_read, no_read) (refl {a = Err reason}));
      text = cc;
    }

pub conditional-returns : goal.conditional-returns
conditional-returns t c =
    let old = c.args.self.now in
    let yes_read = rw c.in_ok-test.ensures.text at c.in_ok-yes.ensures.read in
    let same = c.in_ok-yes.ensures.text ∙ c.in_ok-test.ensures.text in
    let no_read = rw same at c.in_ok-no.ensures.read in record {
      read = rw (if_splits old.text.now c.args.levels (below (term_at old.text.now) c.args.levels) (below (rule_at old.text.now) c.args.levels) old.tokens.rest.now, below_less (term_at old.text.now) c.args.levels c.in_ok-enter.ensures.left, below_less (rule_at old.text.now) c.args.levels c.in_ok-enter.ensures.left, c.in_ok-enter.ensures.read, c.in_ok-test.ensures.read, yes_read, no_read) (rw (if_is c.in_ok-test.test c.in_ok-yes.yes c.in_ok-no.no) refl);
      text = cc;
    }

pub let_rule-returns-in_err-name : goal.let_rule-returns-in_err-name
let_rule-returns-in_err-name t c =
    let p = err_from_is_err_and c.from_residual.result c.from_residual.ensures.1 in
    let old = c.args.self.now in record {
      read = rw (p.1, p.2) (λ reason is. rw (let_splits old.text.now c.args.levels (below (term_at old.text.now) c.args.levels) (below (rule_at old.text.now) c.args.levels) old.tokens.rest.now, c.in_err-name.ensures.parsed.read reason is) (refl {a = Err reason}));
      text = cc;
    }

pub let_rule-returns-in_err-value : goal.let_rule-returns-in_err-value
let_rule-returns-in_err-value t c =
    let p = err_from_is_err_and c.from_residual-in_err-value.result c.from_residual-in_err-value.ensures.1 in
    let old = c.args.self.now in record {
      read = rw (p.1, p.2) (λ reason is.
          let value = rw c.in_ok-name.ensures.parsed.text at (c.in_err-value.ensures.read reason is) in
          rw (let_splits old.text.now c.args.levels (below (term_at old.text.now) c.args.levels) (below (rule_at old.text.now) c.args.levels) old.tokens.rest.now, below_less (term_at old.text.now) c.args.levels c.in_ok-name.ensures.left, below_less (rule_at old.text.now) c.args.levels c.in_ok-name.ensures.left, c.in_ok-name.ensures.parsed.read, value) (refl {a = Err reason}));
      text = cc;
    }

pub let_rule-returns-in_err-body : goal.let_rule-returns-in_err-body
let_rule-returns-in_err-body t c =
    let p = err_from_is_err_and c.from_residual-in_err-body.result c.from_residual-in_err-body.ensures.1 in
    let old = c.args.self.now in
    let value = rw c.in_ok-name.ensures.parsed.text at c.in_ok-value.ensures.read in
    let same = c.in_ok-value.ensures.text ∙ c.in_ok-name.ensures.parsed.text in record {
      read = rw (p.1, p.2) (λ reason is.
          let body = rw same at (c.in_err-body.ensures.read reason is) in
          rw (let_splits old.text.now c.args.levels (below (term_at old.text.now) c.args.levels) (below (rule_at old.text.now) c.args.levels) old.tokens.rest.now, below_less (term_at old.text.now) c.args.levels c.in_ok-name.ensures.left, below_less (rule_at old.text.now) c.args.levels c.in_ok-name.ensures.left, c.in_ok-name.ensures.parsed.read, value, body) (refl {a = Err reason}));
      text = cc;
    }

pub let_rule-returns : goal.let_rule-returns
let_rule-returns t c =
    let old = c.args.self.now in
    let value = rw c.in_ok-name.ensures.parsed.text at c.in_ok-value.ensures.read in
    let same = c.in_ok-value.ensures.text ∙ c.in_ok-name.ensures.parsed.text in
    let body = rw same at c.in_ok-body.ensures.read in record {
      read = rw (let_splits old.text.now c.args.levels (below (term_at old.text.now) c.args.levels) (below (rule_at old.text.now) c.args.levels) old.tokens.rest.now, below_less (term_at old.text.now) c.args.levels c.in_ok-name.ensures.left, below_less (rule_at old.text.now) c.args.levels c.in_ok-name.ensures.left, c.in_ok-name.ensures.parsed.read, value, body) (rw (rule_of-Let c.in_ok-name.name c.in_ok-value.value c.in_ok-body.body) refl);
      text = cc;
    }

pub forall-returns-in_err-header : goal.forall-returns-in_err-header
forall-returns-in_err-header t c =
    let p = err_from_is_err_and c.from_residual.result c.from_residual.ensures.1 in
    let old = c.args.self.now in record {
      read = rw (p.1, p.2) (λ reason is. rw (forall_splits old.text.now c.args.levels (below (term_at old.text.now) c.args.levels) (below (rule_at old.text.now) c.args.levels) old.tokens.rest.now, c.in_err-header.ensures.parsed.read reason is) (refl {a = Err reason}));
      text = cc;
    }

pub forall-returns-in_err-body : goal.forall-returns-in_err-body
forall-returns-in_err-body t c =
    let p = err_from_is_err_and c.from_residual-in_err-body.result c.from_residual-in_err-body.ensures.1 in
    let old = c.args.self.now in record {
      read = rw (p.1, p.2) (λ reason is.
          let body = rw c.in_ok-header.ensures.parsed.text at (c.in_err-body.ensures.read reason is) in
          rw (forall_splits old.text.now c.args.levels (below (term_at old.text.now) c.args.levels) (below (rule_at old.text.now) c.args.levels) old.tokens.rest.now, c.in_ok-header.ensures.parsed.read, below_less (rule_at old.text.now) c.args.levels c.in_ok-header.ensures.left, body) (refl {a = Err reason}));
      text = cc;
    }

pub forall-returns : goal.forall-returns
forall-returns t c =
    let old = c.args.self.now in
    let body = rw c.in_ok-header.ensures.parsed.text at c.in_ok-body.ensures.read in record {
      read = rw (forall_splits old.text.now c.args.levels (below (term_at old.text.now) c.args.levels) (below (rule_at old.text.now) c.args.levels) old.tokens.rest.now, c.in_ok-header.ensures.parsed.read, below_less (rule_at old.text.now) c.args.levels c.in_ok-header.ensures.left, body) (rw (rule_of-Forall c.in_ok-header.header.0.0 c.in_ok-header.header.0.1 c.in_ok-header.header.1 c.in_ok-body.body) refl);
      text = cc;
    }

pub choose-returns-in_err-header : goal.choose-returns-in_err-header
choose-returns-in_err-header t c =
    let p = err_from_is_err_and c.from_residual.result c.from_residual.ensures.1 in
    let old = c.args.self.now in record {
      read = rw (p.1, p.2) (λ reason is. rw (choose_splits old.text.now c.args.levels (below (term_at old.text.now) c.args.levels) (below (rule_at old.text.now) c.args.levels) old.tokens.rest.now, c.in_err-header.ensures.parsed.read reason is) (refl {a = Err reason}));
      text = cc;
    }

pub choose-returns-in_err-body : goal.choose-returns-in_err-body
choose-returns-in_err-body t c =
    let p = err_from_is_err_and c.from_residual-in_err-body.result c.from_residual-in_err-body.ensures.1 in
    let old = c.args.self.now in record {
      read = rw (p.1, p.2) (λ reason is.
          let body = rw c.in_ok-header.ensures.parsed.text at (c.in_err-body.ensures.read reason is) in
          rw (choose_splits old.text.now c.args.levels (below (term_at old.text.now) c.args.levels) (below (rule_at old.text.now) c.args.levels) old.tokens.rest.now, c.in_ok-header.ensures.parsed.read, below_less (rule_at old.text.now) c.args.levels c.in_ok-header.ensures.left, body) (refl {a = Err reason}));
      text = cc;
    }

pub choose-returns-in_err-none : goal.choose-returns-in_err-none
choose-returns-in_err-none t c =
    let p = err_from_is_err_and c.from_residual-in_err-none.result c.from_residual-in_err-none.ensures.1 in
    let old = c.args.self.now in
    let body = rw c.in_ok-header.ensures.parsed.text at c.in_ok-body.ensures.read in
    let same = c.in_ok-body.ensures.text ∙ c.in_ok-header.ensures.parsed.text in record {
      read = rw (p.1, p.2) (λ reason is.
          let none = rw same at (c.in_err-none.ensures.read reason is) in
          rw (choose_splits old.text.now c.args.levels (below (term_at old.text.now) c.args.levels) (below (rule_at old.text.now) c.args.levels) old.tokens.rest.now, c.in_ok-header.ensures.parsed.read, below_less (rule_at old.text.now) c.args.levels c.in_ok-header.ensures.left, body, none) (refl {a = Err reason}));
      text = cc;
    }

pub choose-returns : goal.choose-returns
choose-returns t c =
    let old = c.args.self.now in
    let body = rw c.in_ok-header.ensures.parsed.text at c.in_ok-body.ensures.read in
    let same = c.in_ok-body.ensures.text ∙ c.in_ok-header.ensures.parsed.text in
    let none = rw same at c.in_ok-none.ensures.read in record {
      read = rw (choose_splits old.text.now c.args.levels (below (term_at old.text.now) c.args.levels) (below (rule_at old.text.now) c.args.levels) old.tokens.rest.now, c.in_ok-header.ensures.parsed.read, below_less (rule_at old.text.now) c.args.levels c.in_ok-header.ensures.left, body, none) (rw (choose_is c.in_ok-header.header.0.0 c.in_ok-header.header.0.1 c.in_ok-header.header.1 c.in_ok-body.body c.in_ok-none.none) refl);
      text = cc;
    }

pub iterate-returns-in_err-body : goal.iterate-returns-in_err-body
iterate-returns-in_err-body t c =
    let p = err_from_is_err_and c.from_residual-in_err-body.result c.from_residual-in_err-body.ensures.1 in
    let old = c.args.self.now in record {
      read = rw (p.1, p.2) (λ reason is. rw (iterate_splits old.text.now c.args.levels (below (term_at old.text.now) c.args.levels) (below (rule_at old.text.now) c.args.levels) old.tokens.rest.now, below_less (rule_at old.text.now) c.args.levels c.in_ok-enter.ensures.left, c.in_ok-enter.ensures.read, c.in_err-body.ensures.read reason is) (refl {a = Err reason}));
      text = cc;
    }

pub iterate-returns : goal.iterate-returns
iterate-returns t c =
    let old = c.args.self.now in record {
      read = rw (iterate_splits old.text.now c.args.levels (below (term_at old.text.now) c.args.levels) (below (rule_at old.text.now) c.args.levels) old.tokens.rest.now, below_less (rule_at old.text.now) c.args.levels c.in_ok-enter.ensures.left, c.in_ok-enter.ensures.read, c.in_ok-body.ensures.read) (rw (rule_of-Iterate c.in_ok-body.body) refl);
      text = cc;
    }

pub while_rule-returns-in_err-test : goal.while_rule-returns-in_err-test
while_rule-returns-in_err-test t c =
    let p = err_from_is_err_and c.from_residual-in_err-test.result c.from_residual-in_err-test.ensures.1 in
    let old = c.args.self.now in record {
      read = rw (p.1, p.2) (λ reason is. rw (while_splits old.text.now c.args.levels (below (term_at old.text.now) c.args.levels) (below (rule_at old.text.now) c.args.levels) old.tokens.rest.now, below_less (term_at old.text.now) c.args.levels c.in_ok-enter.ensures.left, below_less (rule_at old.text.now) c.args.levels c.in_ok-enter.ensures.left, c.in_ok-enter.ensures.read, c.in_err-test.ensures.read reason is) (refl {a = Err reason}));
      text = cc;
    }

pub while_rule-returns-in_err-body : goal.while_rule-returns-in_err-body
while_rule-returns-in_err-body t c =
    let p = err_from_is_err_and c.from_residual-in_err-body.result c.from_residual-in_err-body.ensures.1 in
    let old = c.args.self.now in record {
      read = rw (p.1, p.2) (λ reason is.
          let body = rw c.in_ok-test.ensures.text at (c.in_err-body.ensures.read reason is) in
          rw (while_splits old.text.now c.args.levels (below (term_at old.text.now) c.args.levels) (below (rule_at old.text.now) c.args.levels) old.tokens.rest.now, below_less (term_at old.text.now) c.args.levels c.in_ok-enter.ensures.left, below_less (rule_at old.text.now) c.args.levels c.in_ok-enter.ensures.left, c.in_ok-enter.ensures.read, c.in_ok-test.ensures.read, body) (refl {a = Err reason}));
      text = cc;
    }

pub while_rule-returns : goal.while_rule-returns
while_rule-returns t c =
    let old = c.args.self.now in
    let body = rw c.in_ok-test.ensures.text at c.in_ok-body.ensures.read in record {
      read = rw (while_splits old.text.now c.args.levels (below (term_at old.text.now) c.args.levels) (below (rule_at old.text.now) c.args.levels) old.tokens.rest.now, below_less (term_at old.text.now) c.args.levels c.in_ok-enter.ensures.left, below_less (rule_at old.text.now) c.args.levels c.in_ok-enter.ensures.left, c.in_ok-enter.ensures.read, c.in_ok-test.ensures.read, body) (rw (rule_of-While c.in_ok-test.test c.in_ok-body.body) refl);
      text = cc;
    }
