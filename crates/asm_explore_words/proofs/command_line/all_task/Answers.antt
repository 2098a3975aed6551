use Rattle.std.proofs.Common.{[], ◌∷◌, map}
use Rattle.std.specs.Prelude.{cond}
use Rattle.std.proofs.lemmas.Result.{err_from_is_err_and}
use Rattle.clap.specs.declared.error.kind.ErrorKind.TheVariants.{ArgumentConflict}
use Rattle.asm_explore_words.specs.CommandLine.{refusals}
use Rattle.asm_explore_words.specs.WordsSaid.{all_refusals, are_at_odds}
use Rattle.asm_explore_words.proofs.WordKinds.{first_kinds, is_refusal}
use Rattle.asm_explore_words.proofs.command_line.all_task.Goals as goal

pub returns-in_err-settings-clause-refused : goal.returns-in_err-settings-clause-refused
returns-in_err-settings-clause-refused g c =
    let p = err_from_is_err_and c.from_residual.result c.from_residual.ensures.1 in
    let words = map g.S.AsStr.text c.args.words.now in
    let error = c.in_err-settings.field-0.0 in
    let among = first_kinds (refusals words) (cond (are_at_odds words) (ArgumentConflict ∷ []) []) error c.in_err-settings.ensures.refused in
    rw p.1 (is_refusal (all_refusals words) error p.0 among p.2)
