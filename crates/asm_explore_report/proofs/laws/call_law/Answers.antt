use Rattle.asm_explore_report.proofs.SaidCalls.{call_says}
use Rattle.asm_explore_report.proofs.laws.call_law.Goals as goal

pub returns : goal.returns
returns c = call_says
