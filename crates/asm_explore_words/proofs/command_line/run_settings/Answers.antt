use Rattle.std.proofs.Common.{[], ◌∷◌, map}
use Rattle.std.specs.Prelude.{cond}
use Rattle.std.proofs.lemmas.Result.{err_from_is_err_and}
use Rattle.clap.specs.declared.error.kind.ErrorKind.TheVariants.{ArgumentConflict}
use Rattle.asm_explore_words.specs.CommandLine.{run_refusals}
use Rattle.asm_explore_words.specs.WordsSaid.{is_run_at_odds, one_run_refusals, run_rows}
use Rattle.asm_explore_words.proofs.WordKinds.{first_kinds, is_refusal}
use Rattle.asm_explore_words.proofs.command_line.run_settings.Goals as goal

pub returns-in_err-question-clause-refused : goal.returns-in_err-question-clause-refused
returns-in_err-question-clause-refused g c =
    let p = err_from_is_err_and c.from_residual.result c.from_residual.ensures.1 in
    let words = map g.S.AsStr.text c.args.words.now in
    let draws = c.args.asked.draws in
    let error = c.in_err-question.field-0.0 in
    let among = first_kinds (run_refusals draws words) (cond (is_run_at_odds draws (run_rows draws words)) (ArgumentConflict ∷ []) []) error c.in_err-question.ensures.refused in
    rw p.1 (is_refusal (one_run_refusals draws words) error p.0 among p.2)
