use Rattle.std.proofs.Common.{◌≡◌, ◌∙◌, ℕ, List, Option, ap, Some, refl, sym, arith, pos}
use Rattle.std.specs.Prelude.{unwrap_or}
use Rattle.std.specs.Str.Parse.{ExplainsUnsignedError, HasUnsignedDigitsIfOk, ParsesUnsigned, signed_digits_value}
use Rattle.clap.specs.Lexer.{without_minus}
use Rattle.clap.specs.Matches.{found_of}
use Rattle.asm_limits.specs.code.NumberOptions.{as_option}
use Rattle.asm_arguments.proofs.ReadNumbers.{is_in_range, is_number}
use Rattle.asm_arguments.proofs.SignedTexts.{read_number}
use Rattle.asm_arguments.proofs.numbers.number_of.Goals as goal

-- the number that was handed is that of the text
is_read : (text : List ℕ) (r : Option ℕ) → (n : ℕ) × (r ≡ Some n) × (signed_digits_value 10 text ≡ pos n) → (m : ℕ) → r ≡ Some m
    → signed_digits_value 10 text ≡ pos m
is_read text r read m is = read.2 ∙ ap (λ o. pos (unwrap_or o 0)) (sym read.1 ∙ is)

pub unwrap-requires : goal.unwrap-requires
unwrap-requires c =
    let read = read_number _ (λ bs r. ParsesUnsigned 32 10 bs r × ExplainsUnsignedError 10 bs r × HasUnsignedDigitsIfOk bs r) 32
    c.args.option.bounds.least c.args.option.bounds.most c.requires.text c.get_one.result
    (c.get_one.ensures.value (without_minus c.requires.text) c.requires.is_handed) (λ u x g. g.0) (omega arith) c.requires.is_within in
    rw read.1 refl

pub returns-clause-in_range : goal.returns-clause-in_range
returns-clause-in_range c =
    let read = read_number _ (λ bs r. ParsesUnsigned 32 10 bs r × ExplainsUnsignedError 10 bs r × HasUnsignedDigitsIfOk bs r) 32
    c.args.option.bounds.least c.args.option.bounds.most c.requires.text c.get_one.result
    (c.get_one.ensures.value (without_minus c.requires.text) c.requires.is_handed) (λ u x g. g.0) (omega arith) c.requires.is_within in
    is_in_range (found_of c.args.given.now) (as_option c.args.option) c.requires c.unwrap.result
    (is_read c.requires.text c.get_one.result read c.unwrap.result c.unwrap.ensures)

pub returns-clause-said : goal.returns-clause-said
returns-clause-said c =
    let read = read_number _ (λ bs r. ParsesUnsigned 32 10 bs r × ExplainsUnsignedError 10 bs r × HasUnsignedDigitsIfOk bs r) 32
    c.args.option.bounds.least c.args.option.bounds.most c.requires.text c.get_one.result
    (c.get_one.ensures.value (without_minus c.requires.text) c.requires.is_handed) (λ u x g. g.0) (omega arith) c.requires.is_within in
    is_number (found_of c.args.given.now) (as_option c.args.option) c.requires c.unwrap.result
    (is_read c.requires.text c.get_one.result read c.unwrap.result c.unwrap.ensures)
