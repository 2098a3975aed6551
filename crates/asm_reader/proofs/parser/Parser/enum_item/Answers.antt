use Rattle.std.proofs.Common.{refl, Err}
use Rattle.std.proofs.lemmas.Result.{err_from_is_err_and}
use Rattle.asm_reader.proofs.Headers.{enum_splits}
use Rattle.asm_reader.proofs.parser.Parser.enum_item.Goals as goal

pub returns-in_err-name : goal.returns-in_err-name
returns-in_err-name c =
    let p = err_from_is_err_and c.from_residual.result c.from_residual.ensures.1 in
    let old = c.args.self.now in record {
      read = rw (p.1, p.2) (λ reason is. rw (enum_splits old.text.now old.tokens.rest.now, c.in_err-name.ensures.read reason is) (refl {a = Err reason}));
      text = cc;
    }

pub returns-in_err-elements : goal.returns-in_err-elements
returns-in_err-elements c =
    let p = err_from_is_err_and c.from_residual-in_err-elements.result c.from_residual-in_err-elements.ensures.1 in
    let old = c.args.self.now in record {
      read = rw (p.1, p.2) (λ reason is.
          let elements = rw c.in_ok-name.ensures.text at (c.in_err-elements.ensures.read reason is) in
          rw (enum_splits old.text.now old.tokens.rest.now, c.in_ok-name.ensures.read, elements) (refl {a = Err reason}));
      text = cc;
    }

pub returns : goal.returns
returns c =
    let old = c.args.self.now in
    let elements = rw c.in_ok-name.ensures.text at c.in_ok-elements.ensures.read in record {
      read = rw (enum_splits old.text.now old.tokens.rest.now, c.in_ok-name.ensures.read, elements) refl;
      text = cc;
    }
