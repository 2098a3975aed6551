-- Free. The command line with all commands.
--     no_globals      an argument that is global is none of a plain command
--     added_as        one more command
--     is_free         the library knows what it refuses
use Rattle.std.proofs.Common.{◌≡◌, ◌∙◌, ap, Bool, true, false, not, refl}
use Rattle.std.specs.Borrow.{Bor}
use Rattle.clap.specs.Built.{AddsSubcommand}
use Rattle.clap.specs.Facts.{groups_of}
use Rattle.clap.specs.Faults.{is_simple_and_free}
use Rattle.clap.specs.Simple.{App, app_of, shape_of, shape_of_fields, with_subcommand}
use Rattle.clap.specs.Walk.{Text, is_empty}
use Rattle.clap.specs.declared.builder.command.Command.{Command}
use Rattle.clap.specs.declared.builder.command.Command.TheViews.{out-Command}
use Rattle.clap.proofs.SimpleLemmas.{is_false}
use Rattle.clap.proofs.WalkLemmas.{both}
use Rattle.asm_explore_words.specs.CommandLine.{command, commands, named, random_command, run_command, show_command}

pub is_free : is_simple_and_free commands ≡ true
unfolding commands command random_command run_command show_command
is_free = refl

pub command_is_plain : command.top.is_plain ≡ true
unfolding command
command_is_plain = refl

pub random_is_plain : random_command.top.is_plain ≡ true
unfolding random_command
random_is_plain = refl

pub run_is_plain : (draws : Bool) → (run_command draws).top.is_plain ≡ true
unfolding run_command
run_is_plain draws = refl

pub show_is_plain : show_command.top.is_plain ≡ true
unfolding show_command
show_is_plain = refl

pub no_globals : (c : Command) (app : App) → app.top.is_plain ≡ true → app_of c ≡ app → (out-Command c).has_globals ≡ false
no_globals c app plain known =
    let all = ap (λ x. x.top.is_plain) known ∙ plain in
    let groups = both (is_empty (groups_of c)) _ all in
    let external = both (not (out-Command c).allow_external_subcommands) _ groups.1 in
    is_false (out-Command c).has_globals (both (not (out-Command c).has_globals) _ external.1).0

-- one more command, under another name
pub added_as : (old c sub new : Command) (app : App) (name : Bor Text) → app.top.is_plain ≡ true → app_of c ≡ app
    → out-Command sub ≡ record (out-Command c) { name = name } → AddsSubcommand old sub new
    → app_of new ≡ with_subcommand (app_of old) (named name.now app)
added_as old c sub new app name plain known renamed added =
    let globals : (out-Command sub).has_globals ≡ false = ap (λ f. f.has_globals) renamed ∙ no_globals c app plain known in
    let shape : shape_of sub ≡ named name.now app = ap shape_of_fields renamed ∙ ap (λ (a : App). record a.top { name = name.now }) known in
    added.shape globals ∙ ap (with_subcommand (app_of old)) shape
