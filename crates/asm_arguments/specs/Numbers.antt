-- Definition. Numbers among the words.
--     HasNumber found option         the entry of an option has a text, of a number that the option
--                                    takes, and is read without the minus that it may have
--     IsNumber rows name n           the argument's text, which the words give or which stands for
--                                    it if they don't, is this number
--     HaveNumbers found options      each option has such an entry
--     AreNumbers rows given          each option's number is the one beside it
use Rattle.std.specs.Prelude.{◌≡◌, ℕ, List, [], ◌∷◌, Some, pos, ⊤}
use Rattle.std.specs.Str.Parse.{signed_digits_value}
use Rattle.clap.specs.Lexer.{without_minus}
use Rattle.clap.specs.Matches.{first_value, one_text}
use Rattle.clap.specs.Values.{IsSignedIn}
use Rattle.clap.specs.Walk.{Row, Text, first_of}
use Rattle.clap.specs.declared.parser.matches.Found.{Found}
use Rattle.asm_limits.specs.Limits.{NumberOption}

pub record HasNumber (found : Found) (option : NumberOption) : Type 0 where
  pub text : Text
  pub is_first : first_value found option.name ≡ Some text
  pub is_handed : one_text found option.name ≡ Some (without_minus text)
  pub is_within : IsSignedIn (pos option.bounds.least) (pos option.bounds.most) text

pub record IsNumber (rows : List Row) (name : Text) (n : ℕ) : Type 0 where
  pub text : Text
  pub is_given : first_of name rows ≡ Some text
  pub is_read : signed_digits_value 10 text ≡ pos n

-- ---- of several options

abbrev pub HaveNumbers : Found → List NumberOption → Type 0
HaveNumbers found [] = ⊤
HaveNumbers found (option ∷ options) = HasNumber found option × HaveNumbers found options

abbrev pub AreNumbers : List Row → List (NumberOption × ℕ) → Type 0
AreNumbers rows [] = ⊤
AreNumbers rows ((option, n) ∷ given) = IsNumber rows option.name n × AreNumbers rows given
