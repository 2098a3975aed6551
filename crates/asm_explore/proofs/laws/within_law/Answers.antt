use Rattle.asm_meaning.specs.Run.{run}
use Rattle.asm_explore.proofs.laws.within_law.Goals as goal

pub returns : goal.returns
returns c = λ specification turns within script limit all k low. all (run specification turns script k).last
