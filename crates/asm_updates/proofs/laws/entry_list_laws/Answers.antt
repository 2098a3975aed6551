use Rattle.asm_updates.proofs.EntryLists.{entry_list_laws}
use Rattle.asm_updates.proofs.laws.entry_list_laws.Goals as goal

pub returns : goal.returns
returns c = entry_list_laws
