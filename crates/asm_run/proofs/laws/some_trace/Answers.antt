use Rattle.asm_run.proofs.Traces.{some_trace}
use Rattle.asm_run.proofs.laws.some_trace.Goals as goal

pub returns : goal.returns
returns c = some_trace
