-- Definition. The script that makes the choices of steps: a line for each choice, in the
-- order of the steps.
--     lines_for step cs     for the choices of a step
--     lines_of back         for those of some steps, which are given last first
--     needed lines          those of the first candidates left out, which are taken without a line
use Rattle.std.specs.Prelude.{ℕ, suc, nat_eq, not, List, [], ◌∷◌, ◌++◌, length}
use Rattle.std.specs.List.{filter}
use Rattle.asm_reader.specs.ScriptLines.{Line}
use Rattle.asm_explore.specs.declared.outcomes.listed_outcome.Choice.{Choice}

abbrev pub lines_for : (step : ℕ) → List Choice → List Line
lines_for step [] = []
lines_for step (c ∷ cs) = record { step = step; path = c.path; choice = c.number } ∷ lines_for step cs

abbrev pub lines_of : List (List Choice) → List Line
lines_of [] = []
lines_of (cs ∷ back) = lines_of back ++ lines_for (suc (length back)) cs

abbrev pub needed : List Line → List Line
needed lines = filter (λ l. not (nat_eq l.choice 0)) lines
