use Rattle.asm_run.proofs.Traces.{one_trace}
use Rattle.asm_run.proofs.laws.one_trace.Goals as goal

pub returns : goal.returns
returns c = one_trace
