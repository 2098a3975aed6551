use Rattle.asm_meaning.proofs.ChoiceLemmas.ScriptedIsFree.{scripted_is_free}
use Rattle.asm_meaning.proofs.laws.scripted_is_free.Goals as goal

pub returns : goal.returns
returns c = scripted_is_free
