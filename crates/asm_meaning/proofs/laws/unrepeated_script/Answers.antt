use Rattle.asm_meaning.proofs.ChoiceLemmas.UnrepeatedScripts.{unrepeated_script}
use Rattle.asm_meaning.proofs.laws.unrepeated_script.Goals as goal

pub returns : goal.returns
returns c = unrepeated_script
