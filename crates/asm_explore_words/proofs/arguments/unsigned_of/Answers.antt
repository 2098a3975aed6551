use Rattle.std.proofs.Common.{◌≡◌, ◌∙◌, ap, Some, refl, sym}
use Rattle.std.specs.Prelude.{unwrap_or}
use Rattle.std.specs.Str.Parse.{ExplainsUnsignedError, HasUnsignedDigitsIfOk, ParsesUnsigned, digits_value, without_leading_plus}
use Rattle.asm_explore_words.specs.CommandLine.{most_unsigned}
use Rattle.asm_explore_words.proofs.UnsignedNumbers.{read_unsigned}
use Rattle.asm_explore_words.proofs.arguments.unsigned_of.Goals as goal

pub unwrap-requires : goal.unwrap-requires
unwrap-requires c =
    let read = read_unsigned _ (λ bs r. ParsesUnsigned 64 10 bs r × ExplainsUnsignedError 10 bs r × HasUnsignedDigitsIfOk bs r) most_unsigned c.requires.text c.get_one.result
    (c.get_one.ensures.value c.requires.text c.requires.is_handed) (λ u x g. g.0) c.requires.is_within in
    rw read.1 refl

pub returns : goal.returns
returns c text first =
    let read = read_unsigned _ (λ bs r. ParsesUnsigned 64 10 bs r × ExplainsUnsignedError 10 bs r × HasUnsignedDigitsIfOk bs r) most_unsigned c.requires.text c.get_one.result
    (c.get_one.ensures.value c.requires.text c.requires.is_handed) (λ u x g. g.0) c.requires.is_within in
    let one : Some text ≡ Some c.requires.text = sym first ∙ c.requires.is_first in
    let same : text ≡ c.requires.text = ap (λ o. unwrap_or o text) one in
    let number : Some c.unwrap.result ≡ Some read.0 = sym c.unwrap.ensures ∙ read.1 in
    ap (λ t. digits_value 10 (without_leading_plus t)) same ∙ (read.2 ∙ ap (λ o. unwrap_or o 0) (sym number))
