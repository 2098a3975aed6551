use Rattle.std.proofs.Common.{◌≡◌, subst}
use Rattle.std.specs.Prelude.{IfOk}
use Rattle.std.proofs.lemmas.Result.{IfOk-weaker}
use Rattle.clap.specs.Simple.{app_of}
use Rattle.asm_explore_words.proofs.AllCommands.{added_as}
use Rattle.asm_explore_words.proofs.command_line.with.Goals as goal

pub returns : goal.returns
returns c app plain known =
    let is = subst (λ r. IfOk r (λ command. app_of command ≡ app)) c.in_ok-command.was known in
    IfOk-weaker c.subcommand.result _ _ (λ new added. added_as c.args.commands c.in_ok-command.field-0 c.name.result new app c.args.name plain is c.name.ensures added) c.subcommand.ensures
