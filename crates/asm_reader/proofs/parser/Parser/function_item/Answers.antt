use Rattle.std.proofs.Common.{◌∙◌, refl, Err}
use Rattle.std.proofs.lemmas.Result.{err_from_is_err_and}
use Rattle.asm_reader.proofs.Headers.{function_splits}
use Rattle.asm_reader.proofs.parser.Parser.function_item.Goals as goal

pub returns-in_err-header : goal.returns-in_err-header
returns-in_err-header c =
    let p = err_from_is_err_and c.from_residual.result c.from_residual.ensures.1 in
    let old = c.args.self.now in record {
      read = rw (p.1, p.2) (λ reason is. rw (function_splits old.text.now old.tokens.rest.now c.args.levels, c.in_err-header.ensures.read reason is) (refl {a = Err reason}));
      text = cc;
    }

pub returns-in_err-signature : goal.returns-in_err-signature
returns-in_err-signature c =
    let p = err_from_is_err_and c.from_residual-in_err-signature.result c.from_residual-in_err-signature.ensures.1 in
    let old = c.args.self.now in record {
      read = rw (p.1, p.2) (λ reason is.
          let signature = rw c.in_ok-header.ensures.text at (c.in_err-signature.ensures.read reason is) in
          rw (function_splits old.text.now old.tokens.rest.now c.args.levels, c.in_ok-header.ensures.read, signature) (refl {a = Err reason}));
      text = cc;
    }

pub returns-in_err-table : goal.returns-in_err-table
returns-in_err-table c =
    let p = err_from_is_err_and c.from_residual-in_err-table.result c.from_residual-in_err-table.ensures.1 in
    let old = c.args.self.now in
    let signature = rw c.in_ok-header.ensures.text at c.in_ok-signature.ensures.read in
    let same = c.in_ok-signature.ensures.text ∙ c.in_ok-header.ensures.text in record {
      read = rw (p.1, p.2) (λ reason is.
          let table = rw same at (c.in_err-table.ensures.read reason is) in
          rw (function_splits old.text.now old.tokens.rest.now c.args.levels, c.in_ok-header.ensures.read, signature, table) (refl {a = Err reason}));
      text = cc;
    }

pub returns : goal.returns
returns c =
    let old = c.args.self.now in
    let signature = rw c.in_ok-header.ensures.text at c.in_ok-signature.ensures.read in
    let same = c.in_ok-signature.ensures.text ∙ c.in_ok-header.ensures.text in
    let table = rw same at c.in_ok-table.ensures.read in record {
      read = rw (function_splits old.text.now old.tokens.rest.now c.args.levels, c.in_ok-header.ensures.read, signature, table) refl;
      text = cc;
    }
