-- Free. After a parse of the program's words each option with a number has one in its range.
use Rattle.std.proofs.Common.{◌≡◌, true, refl}
use Rattle.clap.specs.Built.{IsParsedFrom}
use Rattle.clap.specs.Faults.{is_simple_and_free}
use Rattle.clap.specs.Matches.{found_of}
use Rattle.clap.specs.Simple.{app_of, is_simple}
use Rattle.clap.specs.declared.builder.command.Command.{Command}
use Rattle.clap.specs.declared.parser.matches.ArgMatches.{ArgMatches}
use Rattle.asm_limits.specs.Limits.{limit_options}
use Rattle.asm_arguments.specs.Numbers.{HaveNumbers}
use Rattle.asm_arguments.proofs.GivenNumbers.{AreOptions, IsUnrelated, have_numbers}
use Rattle.asm_tool.specs.CommandLine.{command}

pub is_plain : is_simple command ≡ true
unfolding command
is_plain = refl

pub is_free : is_simple_and_free command ≡ true
unfolding command
is_free = refl

unrelated : IsUnrelated command
unfolding command
unrelated = record { simple = refl; free = refl; plain = refl; negates = refl }

are_options : AreOptions command.top.rules limit_options
unfolding command
are_options = search

pub numbers : (c : Command) (m : ArgMatches) → IsParsedFrom c m → app_of c ≡ command → HaveNumbers (found_of m) limit_options
numbers c m p is = have_numbers c m p command is unrelated limit_options are_options
