use Rattle.asm_reader.proofs.OldGrammarLemmas.OldTexts.{still_spells, still_is_specification}
use Rattle.asm_reader.proofs.laws.old_texts.Goals as goal

pub returns : goal.returns
returns c = record { tokens = still_spells; texts = still_is_specification }
