-- Bridge to the code. Graphs whose nodes are numbers: of each node the list of the nodes to which a
-- step leads.
use Rattle.std.specs.Prelude.{◌<◌, ℕ, List, [], map, length, slice_index_or, All}
use Rattle.std.specs.Global.{Vec}

abbrev pub step_lists : List (Vec ℕ) → List (List ℕ)
step_lists vs = map (λ v. v.items) vs

abbrev pub next_of : List (List ℕ) → ℕ → List ℕ
next_of lists n = slice_index_or lists n []

-- each step leads to a node
abbrev pub IsGraph : List (List ℕ) → Type 0
IsGraph lists = All (All (λ n. n < length lists)) lists
