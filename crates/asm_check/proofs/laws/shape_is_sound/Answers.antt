use Rattle.asm_check.proofs.NumberLemmas.SoundShapes.{shape_is_sound}
use Rattle.asm_check.proofs.laws.shape_is_sound.Goals as goal

pub returns : goal.returns
returns c = shape_is_sound
