use Rattle.asm_reader.proofs.OldGrammarLemmas.OldScripts.{still_is_script}
use Rattle.asm_reader.proofs.laws.old_scripts.Goals as goal

pub returns : goal.returns
returns c = still_is_script
