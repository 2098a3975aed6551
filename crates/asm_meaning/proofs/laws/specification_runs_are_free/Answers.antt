use Rattle.asm_meaning.proofs.ChoiceLemmas.SpecificationRuns.{runs_are_free}
use Rattle.asm_meaning.proofs.laws.specification_runs_are_free.Goals as goal

pub returns : goal.returns
returns c = runs_are_free
