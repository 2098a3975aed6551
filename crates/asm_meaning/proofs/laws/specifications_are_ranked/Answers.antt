use Rattle.asm_meaning.proofs.ChoiceLemmas.SpecificationRuns.{are_ranked}
use Rattle.asm_meaning.proofs.laws.specifications_are_ranked.Goals as goal

pub returns : goal.returns
returns c = are_ranked
