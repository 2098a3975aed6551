-- Free. After a parse of the words that follow `choices`, which may draw, or `clash` there is a text,
-- and each option with a number has one in its range; so has that with the seed, if it has one.
use Rattle.std.proofs.Common.{◌≡◌, [], Bool, codes, is_some, true, false, refl, arith}
use Rattle.clap.specs.Built.{IsParsedFrom}
use Rattle.clap.specs.Faults.{is_simple_and_free}
use Rattle.clap.specs.Matches.{first_value, found_of}
use Rattle.clap.specs.Simple.{app_of, is_simple}
use Rattle.clap.specs.declared.builder.command.Command.{Command}
use Rattle.clap.specs.declared.parser.matches.ArgMatches.{ArgMatches}
use Rattle.asm_explore_words.specs.CommandLine.{run_command}
use Rattle.asm_explore_words.specs.WordsSaid.{MayHaveUnsigned, run_number_options}
use Rattle.asm_arguments.specs.Numbers.{HaveNumbers}
use Rattle.asm_arguments.proofs.GivenNumbers.{AreOptions, IsUnrelated, have_numbers, has_text, no_rule}
use Rattle.asm_arguments.proofs.Rules.{is_alone}
use Rattle.asm_explore_words.proofs.OptionalNumbers.{may_have_unsigned}
use Rattle.asm_explore_words.proofs.Options.{apart}

pub is_plain : (draws : Bool) → is_simple (run_command draws) ≡ true
unfolding run_command
is_plain true = refl
is_plain false = refl

pub is_free : (draws : Bool) → is_simple_and_free (run_command draws) ≡ true
unfolding run_command
is_free true = refl
is_free false = refl

pub unrelated : (draws : Bool) → IsUnrelated (run_command draws)
unfolding run_command
unrelated true = record { simple = refl; free = refl; plain = refl; negates = refl }
unrelated false = record { simple = refl; free = refl; plain = refl; negates = refl }

are_options : (draws : Bool) → AreOptions (run_command draws).top.rules run_number_options
unfolding run_command
are_options true = search
are_options false = search

one_text : (draws : Bool) → is_alone (codes "spec") (run_command draws).top.rules 0 ≡ true
unfolding run_command
one_text true = refl
one_text false = refl

module _ (c : Command) (m : ArgMatches) (p : IsParsedFrom c m) (draws : Bool) (is : app_of c ≡ run_command draws) where
  pub spec : is_some (first_value (found_of m) (codes "spec")) ≡ true
  unfolding run_command
  spec = has_text c m p (run_command draws) is (unrelated draws) 0 (codes "spec") no_rule (one_text draws) (record { id = refl; set = refl; range = refl; stands = refl })
      (apart (codes "spec") [] (λ e. omega arith)) (apart (codes "spec") (codes "help") (λ e. omega arith)) (apart (codes "spec") (codes "version") (λ e. omega arith))

  pub numbers : HaveNumbers (found_of m) run_number_options
  numbers = have_numbers c m p (run_command draws) is (unrelated draws) run_number_options (are_options draws)

module _ (c : Command) (m : ArgMatches) (p : IsParsedFrom c m) where
  pub seed : (draws : Bool) → app_of c ≡ run_command draws → draws ≡ true → MayHaveUnsigned (found_of m) (codes "draw")
  unfolding run_command
  seed true is may = may_have_unsigned c m p (run_command true) is (unrelated true) 4 (codes "draw") no_rule refl (record { id = refl; set = refl; parser = refl; range = refl })
      (apart (codes "draw") [] (λ e. omega arith)) (apart (codes "draw") (codes "help") (λ e. omega arith)) (apart (codes "draw") (codes "version") (λ e. omega arith))
  seed false is may = cc
