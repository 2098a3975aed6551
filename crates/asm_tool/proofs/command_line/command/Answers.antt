use Rattle.std.proofs.Common.{◌≡◌, ◌∙◌, true, ap, Some, codes, refl}
use Rattle.std.proofs.lemmas.Result.{IfOk-weaker}
use Rattle.clap.specs.Simple.{App, app_of, app_of_fields, new_app, on_top}
use Rattle.clap.specs.Walk.{Rule, rule_of}
use Rattle.asm_arguments.specs.Arguments.{option}
use Rattle.asm_tool.specs.CommandLine.{command}
use Rattle.asm_arguments.proofs.GivenNumbers.{grown_by}
use Rattle.asm_arguments.proofs.Rules.{grown}
use Rattle.asm_tool.proofs.command_line.command.Goals as goal

abbrev without_name : App → App
without_name = on_top (λ s. record s { no_binary_name = true })

abbrev with_version : App → App
with_version = on_top (λ s. record s { has_version = true })

abbrev with_long : Rule → Rule
with_long rule = record rule { long = Some (codes "script") }

pub returns : goal.returns
unfolding command
returns c =
    let versioned : app_of c.version.result ≡ with_version (new_app (codes "asm")) = ap app_of_fields c.version.ensures ∙ ap with_version c.new.ensures.app in
    let made : app_of c.after_help.result ≡ with_version (new_app (codes "asm")) = ap app_of_fields c.after_help.ensures ∙ (ap app_of_fields c.about.ensures ∙ versioned) in
    let start : app_of c.no_binary_name.result ≡ without_name (with_version (new_app (codes "asm"))) = ap app_of_fields c.no_binary_name.ensures ∙ ap without_name made in
    let one = grown _ _ _ _ _ c.in_ok-arg.ensures start c.file.ensures refl in
    let two = grown _ _ _ _ _ c.in_ok-arg-2.ensures one c.number.ensures refl in
    let three = grown _ _ _ _ (option (codes "script")) c.in_ok-command.ensures two (ap rule_of c.long.ensures ∙ ap with_long c.file-2.ensures) refl in
    IfOk-weaker c.with_numbers.result _ _ (λ m added. grown_by _ m _ _ _ added three c.options_with_defaults.ensures) c.with_numbers.ensures
