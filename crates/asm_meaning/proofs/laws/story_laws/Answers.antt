use Rattle.asm_meaning.proofs.Stories.{story_laws}
use Rattle.asm_meaning.proofs.laws.story_laws.Goals as goal

pub returns : goal.returns
returns c = story_laws
