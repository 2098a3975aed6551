use Rattle.std.proofs.Common.{◌≡◌, ◌∙◌, true, false, ap, codes}
use Rattle.std.proofs.lemmas.Result.{IfOk-weaker}
use Rattle.clap.specs.Simple.{App, app_of, app_of_fields, new_app, on_top, with_subcommand}
use Rattle.asm_explore_words.specs.CommandLine.{command, commands, named, random_command, run_command, show_command}
use Rattle.asm_explore_words.proofs.AllCommands.{command_is_plain, random_is_plain, run_is_plain, show_is_plain}
use Rattle.asm_explore_words.proofs.command_line.commands.Goals as goal

abbrev versioned : App → App
versioned = on_top (λ s. record s { has_version = true })

abbrev without_name : App → App
without_name = on_top (λ s. record s { no_binary_name = true })

abbrev one_named : App → App
one_named = on_top (λ s. record s { subcommand_required = true })

abbrev alone : App
alone = one_named (without_name (versioned (new_app (codes "asm-explore"))))

pub returns : goal.returns
unfolding commands
returns c =
    let begun : app_of c.in_ok-bin_name.field-0 ≡ new_app (codes "asm-explore") = ap app_of_fields c.in_ok-bin_name.ensures.0 ∙ c.new.ensures.app in
    let told : app_of c.after_help.result ≡ versioned (new_app (codes "asm-explore")) =
    ap app_of_fields c.after_help.ensures ∙ (ap app_of_fields c.about.ensures ∙ (ap app_of_fields c.version.ensures ∙ ap versioned begun)) in
    let bare : app_of c.no_binary_name.result ≡ without_name (versioned (new_app (codes "asm-explore"))) =
    ap app_of_fields c.no_binary_name.ensures ∙ ap without_name told in
    let start : app_of c.subcommand_required-commands.result ≡ alone = ap app_of_fields c.subcommand_required-commands.ensures ∙ ap one_named bare in
    let one : app_of c.in_ok-commands.commands ≡ with_subcommand alone (named (codes "all") command) =
    c.in_ok-commands.ensures command command_is_plain c.all.ensures ∙ ap (λ app. with_subcommand app (named (codes "all") command)) start in
    let two : app_of c.in_ok-commands-2.commands ≡ with_subcommand (with_subcommand alone (named (codes "all") command)) (named (codes "random") random_command) =
    c.in_ok-commands-2.ensures random_command random_is_plain c.random.ensures ∙ ap (λ app. with_subcommand app (named (codes "random") random_command)) one in
    let three = c.in_ok-commands-3.ensures (run_command true) (run_is_plain true) c.run_command-choices.ensures ∙ ap (λ app. with_subcommand app (named (codes "choices") (run_command true))) two in
    let four = c.in_ok-commands-4.ensures (run_command false) (run_is_plain false) c.run_command-clash.ensures ∙ ap (λ app. with_subcommand app (named (codes "clash") (run_command false))) three in
    IfOk-weaker c.with-5.result _ _ (λ m added. added ∙ ap (λ app. with_subcommand app (named (codes "show") show_command)) four)
    (c.with-5.ensures show_command show_is_plain c.show.ensures)
