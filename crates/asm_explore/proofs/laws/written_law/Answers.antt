use Rattle.std.proofs.Common.{◌≡◌, List, [], ◌∷◌, refl, ap}
use Rattle.asm_reader.specs.ScriptLines.{Line}
use Rattle.asm_explore.specs.declared.scripts.script_line.Zeros.TheVariants.{Written}
use Rattle.asm_explore.specs.WrittenScripts.{written}
use Rattle.asm_explore.proofs.laws.written_law.Goals as goal

all_written : (lines : List Line) → written Written lines ≡ lines
all_written [] = refl
all_written (line ∷ lines) = ap (λ (more : List Line). line ∷ more) (all_written lines)

pub returns : goal.returns
returns c = all_written
