use Rattle.std.proofs.Common.{◌∙◌, true, ap}
use Rattle.clap.specs.Simple.{App, app_of_fields, on_top}
use Rattle.asm_explore_words.proofs.commands.described.Goals as goal

abbrev without_name : App → App
without_name = on_top (λ s. record s { no_binary_name = true })

pub returns : goal.returns
returns c =
    let told = ap app_of_fields c.after_help.ensures ∙ (ap app_of_fields c.about.ensures ∙ ap app_of_fields c.version.ensures) in
    ap app_of_fields c.no_binary_name.ensures ∙ ap without_name told
