use Rattle.asm_meaning.proofs.ChoiceLemmas.FreeHasScript.{free_has_script}
use Rattle.asm_meaning.proofs.laws.free_has_script.Goals as goal

pub returns : goal.returns
returns c = free_has_script
