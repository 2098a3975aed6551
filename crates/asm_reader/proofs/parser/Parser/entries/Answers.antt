use Rattle.std.proofs.Common.{◌∙◌}
use Rattle.std.proofs.lemmas.Result.{err_from_is_err_and}
use Rattle.asm_syntax.specs.declared.token.Kind.TheVariants.{Symbol}
use Rattle.asm_syntax.specs.declared.token.Symbol.TheVariants.{Comma}
use Rattle.asm_syntax.specs.code.Views.{entry_of}
use Rattle.asm_reader.specs.code.Reading.{entry_at}
use Rattle.asm_reader.proofs.LoopsConsume.{entry_consumes}
use Rattle.asm_reader.proofs.Separated.{past_is, past_consumes, so_far, next_read, all_read, next_fails}
use Rattle.asm_reader.proofs.parser.Parser.entries.Goals as goal

pub loop-self-smaller : goal.loop-self-smaller
loop-self-smaller c =
    let old = c.args.self.now in
    let l = c.loop-self in
    let next = rw l.invariant.text at c.in_ok-next.ensures.read in
    past_consumes (Symbol Comma) (entry_at old.text.now c.args.levels) (entry_consumes old.text.now c.args.levels) l.self.tokens.rest.now c.entry-in-loop-self.new.self.tokens.rest.now (entry_of c.in_ok-next.next)
    (past_is (Symbol Comma) (entry_at old.text.now c.args.levels) l.self.tokens.rest.now c.expect.new.self.rest.now c.entry-in-loop-self.new.self.tokens.rest.now c.in_ok-expect.field-0 (entry_of c.in_ok-next.next) c.in_ok-expect.ensures.read next)

pub loop-self-preserved : goal.loop-self-preserved
loop-self-preserved c =
    let old = c.args.self.now in
    let l = c.loop-self in
    let next = rw l.invariant.text at c.in_ok-next.ensures.read in record {
      read = next_read entry_of (Symbol Comma) (entry_at old.text.now c.args.levels) (entry_consumes old.text.now c.args.levels) l.all.items c.push-in-loop-self.new.self.items l.self.tokens.rest.now c.expect.new.self.rest.now c.entry-in-loop-self.new.self.tokens.rest.now c.in_ok-expect.field-0 c.in_ok-next.next
          (so_far entry_of (Symbol Comma) (entry_at old.text.now c.args.levels) c.push.new.self.items c.entry.new.self.tokens.rest.now) c.in_ok-push-2.ensures.items c.loop-self-test.ensures c.in_ok-expect.ensures.read next l.invariant.read;
      text = c.in_ok-next.ensures.text ∙ l.invariant.text;
    }

pub returns-in_err-next : goal.returns-in_err-next
returns-in_err-next c =
    let p = err_from_is_err_and c.from_residual-in_err-next.result c.from_residual-in_err-next.ensures.1 in
    let old = c.args.self.now in
    let l = c.loop-self in record {
      read = rw (p.1, p.2) (λ reason is.
          let next = rw l.invariant.text at (c.in_err-next.ensures.read reason is) in
          next_fails entry_of (Symbol Comma) (entry_at old.text.now c.args.levels) c.new-all.result.items c.push.new.self.items l.all.items old.tokens.rest.now c.entry.new.self.tokens.rest.now l.self.tokens.rest.now c.expect.new.self.rest.now c.in_ok-first.first c.in_ok-expect.field-0 reason
          c.new-all.ensures.items c.in_ok-push.ensures.items c.in_ok-first.ensures.read c.loop-self-test.ensures c.in_ok-expect.ensures.read next l.invariant.read);
      text = cc;
    }

pub returns : goal.returns
returns c =
    let old = c.args.self.now in
    let l = c.loop-self in record {
      read = all_read entry_of (Symbol Comma) (entry_at old.text.now c.args.levels) c.new-all.result.items c.push.new.self.items l.all.items old.tokens.rest.now c.entry.new.self.tokens.rest.now l.self.tokens.rest.now c.in_ok-first.first
          c.new-all.ensures.items c.in_ok-push.ensures.items c.in_ok-first.ensures.read c.loop-self-test.ensures l.invariant.read;
      text = cc;
    }
