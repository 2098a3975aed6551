use Rattle.std.proofs.Common.{◌≡◌, take}
use Rattle.clap.specs.Walk.{texts}
use Rattle.asm_explore_texts.specs.Conditions.{texts_of}
use Rattle.asm_explore_tool.specs.GivenTexts.{sources_of, word_sources}
use Rattle.asm_explore_tool.proofs.given_texts.from_words.Given as goal

abbrev pub invariant-loop-k : goal.invariant-loop-k
invariant-loop-k l = record {
  texts : texts_of l.all.items ≡ texts (take l.k l.words);
  sources : sources_of l.all.items ≡ word_sources l.k;
}
