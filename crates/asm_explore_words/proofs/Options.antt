-- Free. After a parse of the words that follow `all` there is a text, and each option with a number
-- has one in its range.
use Rattle.std.proofs.Common.{◌≡◌, [], codes, slice_index, ap, is_some, true, refl, arith}
use Rattle.clap.specs.Built.{IsParsedFrom}
use Rattle.clap.specs.Faults.{is_simple_and_free}
use Rattle.clap.specs.Matches.{first_value, found_of}
use Rattle.clap.specs.Simple.{app_of, is_simple}
use Rattle.clap.specs.Walk.{Text}
use Rattle.clap.specs.declared.builder.command.Command.{Command}
use Rattle.clap.specs.declared.parser.matches.ArgMatches.{ArgMatches}
use Rattle.asm_explore_words.specs.CommandLine.{command}
use Rattle.asm_explore_words.specs.WordsSaid.{number_options}
use Rattle.asm_arguments.specs.Numbers.{HaveNumbers}
use Rattle.asm_arguments.proofs.GivenNumbers.{AreOptions, IsUnrelated, have_numbers, has_text, no_rule}

pub is_plain : is_simple command ≡ true
unfolding command
is_plain = refl

pub is_free : is_simple_and_free command ≡ true
unfolding command
is_free = refl

pub unrelated : IsUnrelated command
unfolding command
unrelated = record { simple = refl; free = refl; plain = refl; negates = refl }

-- two texts whose first bytes are not the same
pub apart : (name other : Text) → (slice_index name 0 ≡ slice_index other 0 → ⊥) → name ≡ other → ⊥
apart name other differ same = differ (ap (λ t. slice_index t 0) same)

are_options : AreOptions command.top.rules number_options
unfolding command
are_options = search

module _ (c : Command) (m : ArgMatches) (p : IsParsedFrom c m) (is : app_of c ≡ command) where
  pub spec : is_some (first_value (found_of m) (codes "spec")) ≡ true
  unfolding command
  spec = has_text c m p command is unrelated 0 (codes "spec") no_rule refl (record { id = refl; set = refl; range = refl; stands = refl })
      (apart (codes "spec") [] (λ e. omega arith)) (apart (codes "spec") (codes "help") (λ e. omega arith)) (apart (codes "spec") (codes "version") (λ e. omega arith))

  pub numbers : HaveNumbers (found_of m) number_options
  numbers = have_numbers c m p command is unrelated number_options are_options
