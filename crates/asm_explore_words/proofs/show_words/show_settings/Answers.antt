use Rattle.std.proofs.Common.{map}
use Rattle.std.proofs.lemmas.Result.{err_from_is_err_and}
use Rattle.asm_explore_words.specs.CommandLine.{show_refusals}
use Rattle.asm_explore_words.specs.WordsSaid.{all_show_refusals, show_odds, show_rows}
use Rattle.asm_explore_words.proofs.WordKinds.{first_kinds, is_refusal}
use Rattle.asm_explore_words.proofs.show_words.show_settings.Goals as goal

pub returns-in_err-given-clause-refused : goal.returns-in_err-given-clause-refused
returns-in_err-given-clause-refused g c =
    let p = err_from_is_err_and c.from_residual.result c.from_residual.ensures.1 in
    let words = map g.S.AsStr.text c.args.words.now in
    let error = c.in_err-given.field-0.0 in
    let among = first_kinds (show_refusals words) (show_odds (show_rows words)) error c.in_err-given.ensures.refused in
    rw p.1 (is_refusal (all_show_refusals words) error p.0 among p.2)
