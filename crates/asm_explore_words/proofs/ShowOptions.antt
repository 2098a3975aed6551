-- Free. After a parse of the words that follow `show` there is a text, and each option with a number
-- has one in its range; so has that with the seed, if it has one.
use Rattle.std.proofs.Common.{◌≡◌, [], codes, is_some, true, refl, arith}
use Rattle.clap.specs.Built.{IsParsedFrom}
use Rattle.clap.specs.Faults.{is_simple_and_free}
use Rattle.clap.specs.Matches.{first_value, found_of}
use Rattle.clap.specs.Simple.{app_of, is_simple}
use Rattle.clap.specs.declared.builder.command.Command.{Command}
use Rattle.clap.specs.declared.parser.matches.ArgMatches.{ArgMatches}
use Rattle.asm_explore_words.specs.CommandLine.{show_command}
use Rattle.asm_explore_words.specs.WordsSaid.{MayHaveUnsigned, show_number_options}
use Rattle.asm_arguments.specs.Numbers.{HaveNumbers}
use Rattle.asm_arguments.proofs.GivenNumbers.{AreOptions, IsUnrelated, have_numbers, has_text, no_rule}
use Rattle.asm_explore_words.proofs.OptionalNumbers.{may_have_unsigned}
use Rattle.asm_explore_words.proofs.Options.{apart}

pub is_plain : is_simple show_command ≡ true
unfolding show_command
is_plain = refl

pub is_free : is_simple_and_free show_command ≡ true
unfolding show_command
is_free = refl

pub unrelated : IsUnrelated show_command
unfolding show_command
unrelated = record { simple = refl; free = refl; plain = refl; negates = refl }

are_options : AreOptions show_command.top.rules show_number_options
unfolding show_command
are_options = search

module _ (c : Command) (m : ArgMatches) (p : IsParsedFrom c m) (is : app_of c ≡ show_command) where
  pub spec : is_some (first_value (found_of m) (codes "spec")) ≡ true
  unfolding show_command
  spec = has_text c m p show_command is unrelated 0 (codes "spec") no_rule refl (record { id = refl; set = refl; range = refl; stands = refl })
      (apart (codes "spec") [] (λ e. omega arith)) (apart (codes "spec") (codes "help") (λ e. omega arith)) (apart (codes "spec") (codes "version") (λ e. omega arith))

  pub numbers : HaveNumbers (found_of m) show_number_options
  numbers = have_numbers c m p show_command is unrelated show_number_options are_options

  pub seed : MayHaveUnsigned (found_of m) (codes "draw")
  unfolding show_command
  seed = may_have_unsigned c m p show_command is unrelated 4 (codes "draw") no_rule refl (record { id = refl; set = refl; parser = refl; range = refl })
      (apart (codes "draw") [] (λ e. omega arith)) (apart (codes "draw") (codes "help") (λ e. omega arith)) (apart (codes "draw") (codes "version") (λ e. omega arith))
