use Rattle.std.proofs.Common.{◌≡◌, ◌∙◌, true, false, ap, codes, sym}
use Rattle.std.proofs.lemmas.Result.{IfOk-weaker}
use Rattle.clap.specs.Simple.{App, app_of, app_of_fields, new_app, on_top}
use Rattle.asm_arguments.specs.Arguments.{with_rules}
use Rattle.asm_explore_words.specs.CommandLine.{run_command}
use Rattle.asm_explore_words.proofs.command_line.run_command.Goals as goal

abbrev described : App → App
described = on_top (λ s. record s { has_version = true; no_binary_name = true })

pub returns-then-asked : goal.returns-then-asked
unfolding run_command
returns-then-asked c =
    let start : app_of c.described-command.result ≡ described (new_app (codes "asm-explore")) =
    c.described-command.ensures ∙ ap described (ap app_of_fields c.in_ok-command.ensures.0 ∙ c.new.ensures.app) in
    IfOk-weaker c.with_arguments.result _ _
    (λ m added. added ∙ (ap (λ app. with_rules app (run_command true).top.rules) start ∙ ap run_command (sym c.if-asked.true))) c.with_arguments.ensures

pub returns : goal.returns
unfolding run_command
returns c =
    let start : app_of c.described-command.result ≡ described (new_app (codes "asm-explore")) =
    c.described-command.ensures ∙ ap described (ap app_of_fields c.in_ok-command.ensures.0 ∙ c.new.ensures.app) in
    IfOk-weaker c.with_arguments-2.result _ _
    (λ m added. added ∙ (ap (λ app. with_rules app (run_command false).top.rules) start ∙ ap run_command (sym c.if-asked.false))) c.with_arguments-2.ensures
