use Rattle.std.proofs.Common.{refl, Err}
use Rattle.std.proofs.lemmas.Result.{err_from_is_err_and}
use Rattle.asm_reader.proofs.Headers.{derived_splits}
use Rattle.asm_reader.proofs.parser.Parser.derived_item.Goals as goal

pub returns-in_err-header : goal.returns-in_err-header
returns-in_err-header c =
    let p = err_from_is_err_and c.from_residual.result c.from_residual.ensures.1 in
    let old = c.args.self.now in record {
      read = rw (p.1, p.2) (λ reason is. rw (derived_splits old.text.now old.tokens.rest.now c.args.levels, c.in_err-header.ensures.read reason is) (refl {a = Err reason}));
      text = cc;
    }

pub returns-in_err-body : goal.returns-in_err-body
returns-in_err-body c =
    let p = err_from_is_err_and c.from_residual-in_err-body.result c.from_residual-in_err-body.ensures.1 in
    let old = c.args.self.now in record {
      read = rw (p.1, p.2) (λ reason is.
          let body = rw c.in_ok-header.ensures.text at (c.in_err-body.ensures.read reason is) in
          rw (derived_splits old.text.now old.tokens.rest.now c.args.levels, c.in_ok-header.ensures.read, body) (refl {a = Err reason}));
      text = cc;
    }

pub returns : goal.returns
returns c =
    let old = c.args.self.now in
    let body = rw c.in_ok-header.ensures.text at c.in_ok-body.ensures.read in record {
      read = rw (derived_splits old.text.now old.tokens.rest.now c.args.levels, c.in_ok-header.ensures.read, body) refl;
      text = cc;
    }
