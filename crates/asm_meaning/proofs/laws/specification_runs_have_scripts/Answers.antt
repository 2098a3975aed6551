use Rattle.asm_meaning.proofs.ChoiceLemmas.SpecificationRuns.{runs_have_scripts}
use Rattle.asm_meaning.proofs.laws.specification_runs_have_scripts.Goals as goal

pub returns : goal.returns
returns c = runs_have_scripts
