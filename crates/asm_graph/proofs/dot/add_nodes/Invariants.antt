use Rattle.std.proofs.Common.{◌≡◌, ◌++◌, take}
use Rattle.std.specs.String.{string_bytes}
use Rattle.asm_syntax.specs.code.Views.{spec_of}
use Rattle.asm_explore_table.specs.code.StepsMade.{names_said}
use Rattle.asm_graph.specs.Dot.{node_lines}
use Rattle.asm_graph.proofs.dot.add_nodes.Given as goal

-- the lines of the first nodes are written
abbrev pub invariant-loop-number : goal.invariant-loop-number
invariant-loop-number l = string_bytes l.dot ≡ string_bytes l.initial.dot ++ node_lines (spec_of l.texts.checked.now.spec) (names_said l.texts.names.now) 0 (take l.number l.nodes) (take l.number l.steps)
