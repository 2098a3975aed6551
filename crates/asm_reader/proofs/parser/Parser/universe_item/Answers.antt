use Rattle.std.proofs.Common.{refl, Err}
use Rattle.std.proofs.lemmas.Result.{err_from_is_err_and}
use Rattle.asm_reader.proofs.Headers.{universe_splits}
use Rattle.asm_reader.proofs.parser.Parser.universe_item.Goals as goal

pub returns-in_err-name : goal.returns-in_err-name
returns-in_err-name c =
    let p = err_from_is_err_and c.from_residual.result c.from_residual.ensures.1 in
    let old = c.args.self.now in record {
      read = rw (p.1, p.2) (λ reason is. rw (universe_splits old.text.now old.tokens.rest.now, c.in_err-name.ensures.read reason is) (refl {a = Err reason}));
      text = cc;
    }

pub returns-in_err-first : goal.returns-in_err-first
returns-in_err-first c =
    let p = err_from_is_err_and c.from_residual-in_err-first.result c.from_residual-in_err-first.ensures.1 in
    let old = c.args.self.now in record {
      read = rw (p.1, p.2) (λ reason is. rw (universe_splits old.text.now old.tokens.rest.now, c.in_ok-name.ensures.read, c.in_err-first.ensures reason is) (refl {a = Err reason}));
      text = cc;
    }

pub returns : goal.returns
returns c =
    let old = c.args.self.now in record {
      read = rw (universe_splits old.text.now old.tokens.rest.now, c.in_ok-name.ensures.read, c.in_ok-first.ensures) refl;
      text = cc;
    }
