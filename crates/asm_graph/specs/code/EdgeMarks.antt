-- Bridge to the code. Edges that are marked.
--     has_mark marks i k     the edge with the number k from the node i is
--     AreMarks path marks    these are, and no others
--     HasMore old i k new    this one more
use Rattle.std.specs.Prelude.{◌≡◌, ℕ, Bool, ◌&&◌, ◌||◌, ◌==◌, List, [], map, slice_index_or}
use Rattle.std.specs.List.{list_any}
use Rattle.asm_graph.specs.Paths.{is_among}
use Rattle.asm_graph.specs.declared.edge_marks.EdgeMarks.{EdgeMarks}

abbrev pub row_at : EdgeMarks → ℕ → List ℕ
row_at marks i = slice_index_or (map (λ row. row.items) marks.rows.items) i []

abbrev pub has_mark : EdgeMarks → (i k : ℕ) → Bool
has_mark marks i k = list_any (λ n. n == k) (row_at marks i)

abbrev pub AreMarks : List (ℕ × ℕ) → EdgeMarks → Type 0
AreMarks path marks = (i k : ℕ) → has_mark marks i k ≡ is_among path i k

abbrev pub HasMore : EdgeMarks → (i k : ℕ) → EdgeMarks → Type 0
HasMore old i k new = (j n : ℕ) → has_mark new j n ≡ (has_mark old j n || ((i == j) && (k == n)))
