use Rattle.std.specs.Str.Parse.{ExplainsUnsignedError, HasUnsignedDigitsIfOk, ParsesUnsigned}
use Rattle.clap.specs.Matches.{found_of}
use Rattle.asm_explore_words.proofs.OptionalNumbers.{may_be_unsigned}
use Rattle.asm_explore_words.proofs.arguments.unsigned_if.Goals as goal

pub returns : goal.returns
returns c =
    may_be_unsigned _ (λ bs r. ParsesUnsigned 64 10 bs r × ExplainsUnsignedError 10 bs r × HasUnsignedDigitsIfOk bs r) (found_of c.args.given.now) c.args.name.now c.get_one.result
    c.requires c.get_one.ensures.none c.get_one.ensures.value (λ u x g. g.0)
