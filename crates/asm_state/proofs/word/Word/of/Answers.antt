use Rattle.asm_state.proofs.Words.{value_from}
use Rattle.asm_state.proofs.word.Word.of.Goals as goal

pub returns : goal.returns
returns c = value_from _ _ c.code.ensures.code
