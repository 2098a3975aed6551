use Rattle.asm_explore.proofs.ScriptLemmas.LinesLeftOut.{apart_of, same_picks}
use Rattle.asm_explore.proofs.laws.zeros_law.Goals as goal

pub returns : goal.returns
returns c = λ zeros lines apart step path. same_picks zeros step path lines (apart_of lines apart)
