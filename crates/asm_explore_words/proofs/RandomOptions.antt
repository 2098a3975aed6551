-- Free. After a parse of the words that follow `random` there is a text, and each option with a
-- number has one in its range.
use Rattle.std.proofs.Common.{◌≡◌, [], codes, is_some, true, refl, inr, arith}
use Rattle.clap.specs.Built.{IsParsedFrom}
use Rattle.clap.specs.Faults.{is_simple_and_free}
use Rattle.clap.specs.Matches.{first_value, found_of}
use Rattle.clap.specs.Simple.{app_of, is_simple}
use Rattle.clap.specs.declared.builder.command.Command.{Command}
use Rattle.clap.specs.declared.parser.matches.ArgMatches.{ArgMatches}
use Rattle.asm_explore_words.specs.CommandLine.{random_command}
use Rattle.asm_explore_words.specs.WordsSaid.{HasUnsigned, random_number_options}
use Rattle.asm_arguments.specs.Numbers.{HaveNumbers}
use Rattle.asm_arguments.proofs.GivenNumbers.{AreOptions, IsUnrelated, have_numbers, has_text, no_rule}
use Rattle.asm_explore_words.proofs.UnsignedNumbers.{has_unsigned}
use Rattle.asm_explore_words.proofs.Options.{apart}

pub is_plain : is_simple random_command ≡ true
unfolding random_command
is_plain = refl

pub is_free : is_simple_and_free random_command ≡ true
unfolding random_command
is_free = refl

pub unrelated : IsUnrelated random_command
unfolding random_command
unrelated = record { simple = refl; free = refl; plain = refl; negates = refl }

are_options : AreOptions random_command.top.rules random_number_options
unfolding random_command
are_options = search

module _ (c : Command) (m : ArgMatches) (p : IsParsedFrom c m) (is : app_of c ≡ random_command) where
  pub spec : is_some (first_value (found_of m) (codes "spec")) ≡ true
  unfolding random_command
  spec = has_text c m p random_command is unrelated 0 (codes "spec") no_rule refl (record { id = refl; set = refl; range = refl; stands = refl })
      (apart (codes "spec") [] (λ e. omega arith)) (apart (codes "spec") (codes "help") (λ e. omega arith)) (apart (codes "spec") (codes "version") (λ e. omega arith))

  pub numbers : HaveNumbers (found_of m) random_number_options
  numbers = have_numbers c m p random_command is unrelated random_number_options are_options

  pub seed : HasUnsigned (found_of m) (codes "seed")
  unfolding random_command
  seed = has_unsigned c m p random_command is unrelated 8 (codes "seed") no_rule refl
      (record { id = refl; set = refl; parser = refl; range = refl; stands = inr (omega arith) }) (apart (codes "seed") [] (λ e. omega arith)) (apart (codes "seed") (codes "help") (λ e. omega arith))
      (apart (codes "seed") (codes "version") (λ e. omega arith))
