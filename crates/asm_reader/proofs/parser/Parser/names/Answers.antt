use Rattle.std.proofs.Common.{◌∙◌}
use Rattle.std.proofs.lemmas.Result.{err_from_is_err_and}
use Rattle.asm_syntax.specs.code.Views.{name_of}
use Rattle.asm_reader.specs.code.TermReading.{name_at}
use Rattle.asm_reader.proofs.LoopsConsume.{name_consumes}
use Rattle.asm_reader.proofs.Separated.{past_is, past_consumes, so_far, next_read, all_read, next_fails}
use Rattle.asm_reader.proofs.parser.Parser.names.Goals as goal

pub loop-between-smaller : goal.loop-between-smaller
loop-between-smaller c =
    let old = c.args.self.now in
    let l = c.loop-between in
    let next = rw l.invariant.text at c.in_ok-next.ensures.read in
    past_consumes c.args.between (name_at old.text.now) (name_consumes old.text.now) l.self.tokens.rest.now c.name-in-loop-between.new.self.tokens.rest.now (name_of c.in_ok-next.next)
    (past_is c.args.between (name_at old.text.now) l.self.tokens.rest.now c.expect.new.self.rest.now c.name-in-loop-between.new.self.tokens.rest.now c.in_ok-expect.field-0 (name_of c.in_ok-next.next) c.in_ok-expect.ensures.read next)

pub loop-between-preserved : goal.loop-between-preserved
loop-between-preserved c =
    let old = c.args.self.now in
    let l = c.loop-between in
    let next = rw l.invariant.text at c.in_ok-next.ensures.read in record {
      read = next_read name_of c.args.between (name_at old.text.now) (name_consumes old.text.now) l.all.items c.push-in-loop-between.new.self.items l.self.tokens.rest.now c.expect.new.self.rest.now c.name-in-loop-between.new.self.tokens.rest.now c.in_ok-expect.field-0 c.in_ok-next.next
          (so_far name_of c.args.between (name_at old.text.now) c.push.new.self.items c.name.new.self.tokens.rest.now) c.in_ok-push-2.ensures.items c.loop-between-test.ensures c.in_ok-expect.ensures.read next l.invariant.read;
      text = c.in_ok-next.ensures.text ∙ l.invariant.text;
    }

pub returns-in_err-next : goal.returns-in_err-next
returns-in_err-next c =
    let p = err_from_is_err_and c.from_residual-in_err-next.result c.from_residual-in_err-next.ensures.1 in
    let old = c.args.self.now in
    let l = c.loop-between in record {
      read = rw (p.1, p.2) (λ reason is.
          let next = rw l.invariant.text at (c.in_err-next.ensures.read reason is) in
          next_fails name_of c.args.between (name_at old.text.now) c.in_ok-all.all.items c.push.new.self.items l.all.items old.tokens.rest.now c.name.new.self.tokens.rest.now l.self.tokens.rest.now c.expect.new.self.rest.now c.in_ok-first.first c.in_ok-expect.field-0 reason
          c.in_ok-all.ensures.items c.in_ok-push.ensures.items c.in_ok-first.ensures.read c.loop-between-test.ensures c.in_ok-expect.ensures.read next l.invariant.read);
      text = cc;
    }

pub returns : goal.returns
returns c =
    let old = c.args.self.now in
    let l = c.loop-between in record {
      read = all_read name_of c.args.between (name_at old.text.now) c.in_ok-all.all.items c.push.new.self.items l.all.items old.tokens.rest.now c.name.new.self.tokens.rest.now l.self.tokens.rest.now c.in_ok-first.first
          c.in_ok-all.ensures.items c.in_ok-push.ensures.items c.in_ok-first.ensures.read c.loop-between-test.ensures l.invariant.read;
      text = cc;
    }
