use Rattle.asm_explore_report.proofs.AskedTerms.{all_asked_law}
use Rattle.asm_explore_report.proofs.laws.all_asked_law.Goals as goal

pub returns : goal.returns
returns c = all_asked_law
