use Rattle.std.proofs.Common.{◌≡◌, ◌∙◌, true, ap, codes}
use Rattle.std.proofs.lemmas.Result.{IfOk-weaker}
use Rattle.clap.specs.Simple.{App, app_of, app_of_fields, new_app, on_top}
use Rattle.asm_arguments.specs.Arguments.{with_rules}
use Rattle.asm_explore_words.specs.CommandLine.{show_command}
use Rattle.asm_explore_words.proofs.show_words.show.Goals as goal

abbrev described : App → App
described = on_top (λ s. record s { has_version = true; no_binary_name = true })

pub returns : goal.returns
unfolding show_command
returns c =
    let start : app_of c.described-command.result ≡ described (new_app (codes "asm-explore show")) =
    c.described-command.ensures ∙ ap described (ap app_of_fields c.in_ok-command.ensures.0 ∙ c.new.ensures.app) in
    IfOk-weaker c.with_arguments.result _ _ (λ m added. added ∙ ap (λ app. with_rules app show_command.top.rules) start) c.with_arguments.ensures
