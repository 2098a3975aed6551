use Rattle.std.proofs.Common.{arith, inl}
use Rattle.asm_explore_texts.proofs.Decoding.{length-characters}
use Rattle.asm_explore_texts.proofs.characters.Characters.count_of.Goals as goal

pub count-requires-clause-fits : goal.count-requires-clause-fits
count-requires-clause-fits c = inl (omega (arith, length-characters c.of.result.rest.now))

pub returns-clause-fits : goal.returns-clause-fits
returns-clause-fits c = omega (arith, length-characters c.of.result.rest.now, c.count.ensures.bound)
