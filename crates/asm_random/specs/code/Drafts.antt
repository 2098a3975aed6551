-- Bridge to the code. The lines of a script that takes the candidates of a draft.
--     lines_in step entries      a line for each number of a step
--     lines_from step maps       for each of some steps, the first of them this one
--     draft_lines d              for each of a draft
use Rattle.std.specs.Prelude.{ℕ, suc, List, [], ◌∷◌, ◌++◌}
use Rattle.std.specs.BTreeMap.{BTreeMap}
use Rattle.std.proofs.Common.{Vec, Global}
use Rattle.asm_reader.specs.ScriptLines.{Line}
use Rattle.asm_random.specs.declared.draft.Draft.{Draft}

abbrev pub lines_in : (step : ℕ) → List (Vec ℕ Global × ℕ) → List Line
lines_in step [] = []
lines_in step (e ∷ es) = record { step = step; path = e.0.items; choice = e.1 } ∷ lines_in step es

abbrev pub lines_from : (step : ℕ) → List (BTreeMap (Vec ℕ Global) ℕ) → List Line
lines_from step [] = []
lines_from step (m ∷ ms) = lines_in step m.entries ++ lines_from (suc step) ms

-- steps count from 1
abbrev pub draft_lines : Draft → List Line
draft_lines d = lines_from 1 d.steps.items
