use Rattle.asm_check.proofs.UseLemmas.FitTerms.{term_faults_are_faults}
use Rattle.asm_check.proofs.laws.term_faults_are_faults.Goals as goal

pub returns : goal.returns
returns c = term_faults_are_faults
