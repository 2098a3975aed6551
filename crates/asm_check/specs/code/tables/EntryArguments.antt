-- Bridge to the code. Arguments of entries, as the code looks at them.
--     fits_in          as fits_domain, of what the universes are declared as
--     Key              an argument without the offset of its name
--     HasSeen          the arguments that are kept are those of these entries
use Rattle.std.specs.Prelude.{◌≡◌, ℤ, int_le, ◌&&◌, ◌||◌, not, Bool, true, false, List, [], ◌∷◌, map, Option}
use Rattle.std.specs.List.{list_any}
use Rattle.std.proofs.Common.{Vec, Global}
use Rattle.asm_syntax.specs.declared.term.Literal.TheVariants as literal
use Rattle.asm_syntax.specs.SourceTree as source
use Rattle.asm_syntax.specs.SourceTree.{Const, Entry, Spec}
use Rattle.asm_check.specs.declared.tables.entry_faults.Argument.{Argument}
use Rattle.asm_check.specs.declared.tables.entry_faults.Argument.TheVariants as code
use Rattle.asm_check.specs.Names.{Text, Meaning, is_text}
use Rattle.asm_check.specs.Faults.{is_in_universe}

-- as many arguments as universes, each in its own
abbrev pub fits_in : Spec → List (Option Meaning) → List Const → Bool
fits_in spec [] [] = true
fits_in spec (m ∷ ms) (c ∷ cs) = is_in_universe spec m c && fits_in spec ms cs
fits_in spec ms cs = false

-- `undef`, a truth value, a number, the name of an element
pub data Key : Type 0 where
  Nothing : Key
  Either : Bool → Key
  Whole : ℤ → Key
  Word : Text → Key

abbrev pub key_of : Argument → Key
key_of code.Undef = Nothing
key_of (code.Truth b) = Either b
key_of (code.Number n) = Whole n
key_of (code.Element x) = Word x.now

abbrev pub key : Const → Key
key (source.Plain literal.Undef) = Nothing
key (source.Plain (literal.Truth b)) = Either b
key (source.Plain (literal.Number n)) = Whole n.value
key (source.Element x) = Word x.text

abbrev pub same_key : Key → Key → Bool
same_key Nothing Nothing = true
same_key (Either b) (Either c) = (b && c) || (not b && not c)
same_key (Whole m) (Whole n) = int_le m n && int_le n m
same_key (Word x) (Word y) = is_text x y
same_key j k = false

abbrev pub same_keys : List Key → List Key → Bool
same_keys [] [] = true
same_keys (j ∷ js) (k ∷ ks) = same_key j k && same_keys js ks
same_keys js ks = false

abbrev pub keys_of : Vec Argument Global → List Key
keys_of v = map key_of v.items

abbrev pub keys_in : Entry → List Key
keys_in e = map key e.arguments

-- what is found among the kept ones is what these entries have
abbrev pub HasSeen : List Entry → List (Vec Argument Global) → Type 0
HasSeen before kept = (q : Vec Argument Global) → list_any (λ v. same_keys (keys_of q) (keys_of v)) kept ≡ list_any (λ e. same_keys (keys_in e) (keys_of q)) before
