use Rattle.std.proofs.Common.{◌≡◌, map}
use Rattle.std.specs.List.{range_with_len}
use Rattle.asm_syntax.specs.code.Views.{spec_of}
use Rattle.asm_explore_table.specs.Tables.{numbered}
use Rattle.asm_explore_table.specs.code.StepsMade.{names_said}
use Rattle.asm_graph.specs.Labels.{shown_by}
use Rattle.asm_graph.proofs.named_locations.shown_locations.Given as goal

-- the marks of the first locations
abbrev pub invariant-loop-n : goal.invariant-loop-n
invariant-loop-n l = let s = spec_of l.checked.spec in l.shown.items ≡ map (λ n. shown_by s (names_said l.names) (numbered s n)) (range_with_len 0 l.n)
