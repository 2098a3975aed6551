use Rattle.std.proofs.Common.{◌≡◌, ℕ, drop}
use Rattle.asm_reader.specs.ScriptLines.{exact_choice}
use Rattle.asm_explore.specs.ChoiceLines.{lines_for}
use Rattle.asm_graph.proofs.edge_script.number_at.Given as goal

-- the choices so far have another path
abbrev pub invariant-loop-k : goal.invariant-loop-k
invariant-loop-k l = (step : ℕ) → exact_choice (lines_for step l.choices) step l.path ≡ exact_choice (lines_for step (drop l.k l.choices)) step l.path
