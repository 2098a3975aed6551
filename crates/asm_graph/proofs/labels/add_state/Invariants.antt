use Rattle.std.proofs.Common.{◌≡◌, ◌≤◌, ◌++◌, length, take}
use Rattle.std.specs.List.{flat_map}
use Rattle.std.specs.Prelude.{codes}
use Rattle.asm_state.specs.Signature.{locations, state_of}
use Rattle.asm_syntax.specs.code.Views.{spec_of}
use Rattle.asm_check.specs.Shapes.{shape_of}
use Rattle.asm_explore_table.specs.code.StepsMade.{names_said}
use Rattle.asm_graph.specs.Labels.{shown_lines}
use Rattle.asm_graph.proofs.labels.add_state.Given as goal

-- the lines of the first locations are written
abbrev pub invariant-loop-n : goal.invariant-loop-n
invariant-loop-n l =
    let s = spec_of l.texts.checked.now.spec in
    let lines = flat_map (shown_lines s (names_said l.texts.names.now) (state_of (shape_of s) l.state)) (take l.n (locations (shape_of s))) in
    record {
      so_far : l.label.items ≡ l.initial.label.items ++ flat_map (λ line. codes "\n" ++ line) lines;
      count : l.lines ≡ length lines;
      few : l.lines ≤ 12;
    }
