use Rattle.std.proofs.Common.{◌∙◌, ap, sym, subst, map}
use Rattle.std.proofs.lemmas.Result.{err_from_is_err_and}
use Rattle.clap.specs.Faults.{fault_of, is_simple_and_free}
use Rattle.clap.specs.Kinds.{HasKind}
use Rattle.clap.specs.Simple.{App, is_simple, matches_of}
use Rattle.clap.specs.declared.error.Error.{Error}
use Rattle.asm_explore_words.specs.CommandLine.{show_refusals}
use Rattle.asm_explore_words.proofs.ShowOptions.{is_free, is_plain, numbers, seed, spec}
use Rattle.asm_explore_words.proofs.show_words.show_parsed.Goals as goal

pub returns-in_err-given-clause-refused : goal.returns-in_err-given-clause-refused
returns-in_err-given-clause-refused g c =
    let p = err_from_is_err_and c.from_residual-in_err-given.result c.from_residual-in_err-given.ensures.1 in
    let is = c.in_ok-command.ensures in
    let words = map g.S.AsStr.text c.args.words.now in
    let kinds = c.in_err-given.ensures.kinds (ap is_simple_and_free is ∙ is_free) in
    let named : HasKind (show_refusals words) c.in_err-given.field-0.0 = subst (λ (app : App). HasKind (fault_of app words) c.in_err-given.field-0.0) is kinds in
    rw p.1 (subst (λ (e : Error). HasKind (show_refusals words) e) (sym p.2) named)

pub returns-clause-taken : goal.returns-clause-taken
returns-clause-taken g c =
    let is = c.in_ok-command.ensures in
    ap (λ (app : App). fault_of app (map g.S.AsStr.text c.args.words.now)) (sym is)
    ∙ c.in_ok-given.ensures.kinds (ap is_simple_and_free is ∙ is_free)

pub returns-clause-parsed : goal.returns-clause-parsed
returns-clause-parsed g c =
    let is = c.in_ok-command.ensures in
    let words = map g.S.AsStr.text c.args.words.now in
    let m = c.in_ok-given.given in
    let p = c.in_ok-given.ensures.parsed in
    record {
      rows = (c.in_ok-given.ensures.matches (ap is_simple is ∙ is_plain)).0 ∙ ap (λ app. matches_of app words) is;
      spec = spec c.in_ok-command.command m p is;
      numbers = numbers c.in_ok-command.command m p is;
      draw = seed c.in_ok-command.command m p is;
    }
