-- Free. Numbers of 64 bits.
--     has_unsigned      after a parse there is one of each option that takes one and has a default
--     read_unsigned     what is read of a text that passed as one
--     is_unsigned       what is read of what a parse finds is the number of its rows
use Rattle.std.proofs.Common.{◌≡◌, ◌∙◌, ap, ℕ, true, List, [], Option, Some, None, codes, refl, sym}
use Rattle.std.specs.Prelude.{Err, Ok, Result}
use Rattle.std.specs.List.{slice_index_or}
use Rattle.std.specs.Str.Parse.{ParsesUnsigned, digits_value, without_leading_plus}
use Rattle.clap.specs.Built.{IsParsedFrom}
use Rattle.clap.specs.Matches.{ReadsOne, first_value, found_of}
use Rattle.clap.specs.Simple.{App, app_of}
use Rattle.clap.specs.Values.{IsUnsignedIn}
use Rattle.clap.specs.Walk.{Row, Rule, Text, first_of, rows_of}
use Rattle.clap.specs.declared.builder.command.Command.{Command}
use Rattle.clap.specs.declared.builder.value_parser.ValueParser.TheVariants.{Unsigned}
use Rattle.clap.specs.declared.parser.matches.ArgMatches.{ArgMatches}
use Rattle.clap.specs.declared.parser.matches.Found.{Found}
use Rattle.asm_arguments.proofs.GivenNumbers.{IsUnrelated, IsValueRule, has_value}
use Rattle.asm_arguments.proofs.ReadNumbers.{first_of_rows}
use Rattle.asm_arguments.proofs.Rules.{is_alone}
use Rattle.asm_explore_words.specs.CommandLine.{most_unsigned}
use Rattle.asm_explore_words.specs.WordsSaid.{HasUnsigned, IsUnsigned}

module _ (c : Command) (m : ArgMatches) (p : IsParsedFrom c m) (app : App) (known : app_of c ≡ app) (u : IsUnrelated app) where
  pub has_unsigned : (k : ℕ) (name : Text) (r : Rule) → is_alone name app.top.rules k ≡ true
      → IsValueRule (slice_index_or app.top.rules k r) name (Unsigned 0 most_unsigned) → (name ≡ [] → ⊥) → (name ≡ codes "help" → ⊥)
      → (name ≡ codes "version" → ⊥) → HasUnsigned (found_of m) name
  has_unsigned k name r once is named no_help no_version =
      let value = has_value c m p app known u k name (Unsigned 0 most_unsigned) r once is named no_help no_version in
      record { text = value.text; is_first = value.is_first; is_handed = value.is_handed; is_within = value.passed }

pub read_unsigned : (E : Type 0) (G : List ℕ → Result ℕ E → Type 0) (most : ℕ) (t : List ℕ) (r : Option ℕ) → ReadsOne G t r
    → ((u : List ℕ) (x : Result ℕ E) → G u x → ParsesUnsigned 64 10 u x) → IsUnsignedIn 0 most t
    → (n : ℕ) × (r ≡ Some n) × (digits_value 10 (without_leading_plus t) ≡ n)
read_unsigned E G most t (Some v) read only passed = (v, refl, sym (only t (Ok v) read).1)
read_unsigned E G most t None read only passed = absurd (only t (Err read.0) read.1 (passed.0, passed.1))

module _ (f : Found) (name : Text) (has : HasUnsigned f name) (n : ℕ)
    (read : (text : Text) → first_value f name ≡ Some text → digits_value 10 (without_leading_plus text) ≡ n) where
  pub is_unsigned : (rows : List Row) → rows_of f ≡ rows → IsUnsigned rows name n
  is_unsigned rows is = record {
    text = has.text;
    is_given = ap (first_of name) (sym is) ∙ (first_of_rows f name ∙ has.is_first);
    is_read = read has.text has.is_first;
  }
