use Rattle.asm_updates.proofs.EntryLists.{order_free}
use Rattle.asm_updates.proofs.laws.order_free.Goals as goal

pub returns : goal.returns
returns c = order_free
