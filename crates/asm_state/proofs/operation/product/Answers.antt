use Rattle.asm_state.proofs.Numbers.{no_product}
use Rattle.asm_state.proofs.operation.product.Goals as goal

pub returns-in-None : goal.returns-in-None
returns-in-None c = no_product c.args.m c.args.n c.in-None.ensures
