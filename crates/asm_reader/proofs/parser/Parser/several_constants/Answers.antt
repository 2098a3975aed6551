use Rattle.std.proofs.Common.{◌∙◌}
use Rattle.std.proofs.lemmas.Result.{err_from_is_err_and}
use Rattle.asm_syntax.specs.declared.token.Kind.TheVariants.{Symbol}
use Rattle.asm_syntax.specs.declared.token.Symbol.TheVariants.{Comma}
use Rattle.asm_syntax.specs.code.Views.{const_of}
use Rattle.asm_reader.specs.code.Reading.{constant_at}
use Rattle.asm_reader.proofs.LoopsConsume.{constant_consumes}
use Rattle.asm_reader.proofs.Separated.{past_is, past_consumes, so_far, next_read, all_read, next_fails}
use Rattle.asm_reader.proofs.parser.Parser.several_constants.Goals as goal

pub loop-self-smaller : goal.loop-self-smaller
loop-self-smaller c =
    let old = c.args.self.now in
    let l = c.loop-self in
    let next = rw l.invariant.text at c.in_ok-next.ensures.read in
    past_consumes (Symbol Comma) (constant_at old.text.now) (constant_consumes old.text.now) l.self.tokens.rest.now c.constant-in-loop-self.new.self.tokens.rest.now (const_of c.in_ok-next.next)
    (past_is (Symbol Comma) (constant_at old.text.now) l.self.tokens.rest.now c.expect.new.self.rest.now c.constant-in-loop-self.new.self.tokens.rest.now c.in_ok-expect.field-0 (const_of c.in_ok-next.next) c.in_ok-expect.ensures.read next)

pub loop-self-preserved : goal.loop-self-preserved
loop-self-preserved c =
    let old = c.args.self.now in
    let l = c.loop-self in
    let next = rw l.invariant.text at c.in_ok-next.ensures.read in record {
      read = next_read const_of (Symbol Comma) (constant_at old.text.now) (constant_consumes old.text.now) l.all.items c.push-in-loop-self.new.self.items l.self.tokens.rest.now c.expect.new.self.rest.now c.constant-in-loop-self.new.self.tokens.rest.now c.in_ok-expect.field-0 c.in_ok-next.next
          (so_far const_of (Symbol Comma) (constant_at old.text.now) c.push.new.self.items c.constant.new.self.tokens.rest.now) c.in_ok-push-2.ensures.items c.loop-self-test.ensures c.in_ok-expect.ensures.read next l.invariant.read;
      text = c.in_ok-next.ensures.text ∙ l.invariant.text;
    }

pub returns-in_err-next : goal.returns-in_err-next
returns-in_err-next c =
    let p = err_from_is_err_and c.from_residual-in_err-next.result c.from_residual-in_err-next.ensures.1 in
    let old = c.args.self.now in
    let l = c.loop-self in record {
      read = rw (p.1, p.2) (λ reason is.
          let next = rw l.invariant.text at (c.in_err-next.ensures.read reason is) in
          next_fails const_of (Symbol Comma) (constant_at old.text.now) c.new-all.result.items c.push.new.self.items l.all.items old.tokens.rest.now c.constant.new.self.tokens.rest.now l.self.tokens.rest.now c.expect.new.self.rest.now c.in_ok-first.first c.in_ok-expect.field-0 reason
          c.new-all.ensures.items c.in_ok-push.ensures.items c.in_ok-first.ensures.read c.loop-self-test.ensures c.in_ok-expect.ensures.read next l.invariant.read);
      text = cc;
    }

pub returns : goal.returns
returns c =
    let old = c.args.self.now in
    let l = c.loop-self in record {
      read = all_read const_of (Symbol Comma) (constant_at old.text.now) c.new-all.result.items c.push.new.self.items l.all.items old.tokens.rest.now c.constant.new.self.tokens.rest.now l.self.tokens.rest.now c.in_ok-first.first
          c.new-all.ensures.items c.in_ok-push.ensures.items c.in_ok-first.ensures.read c.loop-self-test.ensures l.invariant.read;
      text = cc;
    }
