use Rattle.std.proofs.Common.{refl}
use Rattle.asm_pool.proofs.worker.run_one.Goals as goal

pub returns-clause-task : goal.returns-clause-task
returns-clause-task g c = refl
