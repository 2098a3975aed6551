use Rattle.std.proofs.Common.{◌≡◌, [], length}
use Rattle.asm_explore.specs.ListElements.{Each}
use Rattle.asm_graph.proofs.edge_marks.EdgeMarks.of_nodes.Given as goal

-- the rows so far are empty
abbrev pub invariant-loop : goal.invariant-loop
invariant-loop l = record {
  count : length l.rows.items ≡ l.counter;
  empty : Each (λ row. row.items ≡ []) l.rows.items;
}
