-- Bridge to the code. A depth-first search along the steps between nodes.
--     IsPath next path                 each node of the path leads to those after it
--     MarkMeans next path n m          what the mark m says of the node n, while the search is at
--                                      the end of the path
--     IsSearch lists marks looked path the marks hold, and so does the number of steps that were
--                                      looked at from each node
--     work lists marks looked path     what is left to do, at most
--     KeepsMet old new                 a node that was met stays so
use Rattle.std.specs.Prelude.{◌≡◌, ◌≢◌, ◌<◌, ◌+◌, ◌-◌, ℕ, Bool, true, false, List, [], ◌∷◌, All, Contains, length, slice_index_or, slice_index, sum_by}
use Rattle.asm_check.specs.declared.cycles.cycle_search.Mark.{Mark}
use Rattle.asm_check.specs.declared.cycles.cycle_search.Mark.TheVariants.{Unvisited, OnPath, Acyclic, Cyclic}
use Rattle.asm_check.specs.declared.cycles.cycle_search.Search.{Search}
use Rattle.asm_check.specs.code.cycles.Graph.{next_of}
use Rattle.asm_check.specs.CallGraph.{LeadsTo, IsAcyclic, ReachesCycle}

abbrev pub IsPath : (ℕ → List ℕ) → List ℕ → Type 0
IsPath next [] = Unit {0}
IsPath next (n ∷ path) = All (LeadsTo next n) path × IsPath next path

abbrev pub MarkMeans : (ℕ → List ℕ) → List ℕ → ℕ → Mark → Type 0
MarkMeans next path n Unvisited = Unit {0}
MarkMeans next path n OnPath = Contains path n
MarkMeans next path n Acyclic = IsAcyclic next n
MarkMeans next path n Cyclic = ReachesCycle next n

abbrev pub mark_of : List Mark → ℕ → Mark
mark_of marks n = slice_index_or marks n Unvisited

pub record IsSearch (lists : List (List ℕ)) (marks : List Mark) (looked path : List ℕ) : Type 0 where
  pub marks_len : length marks ≡ length lists
  pub looked_len : length looked ≡ length lists
  pub means : (n : ℕ) → MarkMeans (next_of lists) path n (mark_of marks n)
  pub looked_at : (n k : ℕ) → k < slice_index looked n → IsAcyclic (next_of lists) (slice_index (next_of lists n) k)
  pub joined : IsPath (next_of lists) path
  pub nodes : All (λ n. n < length lists) path

abbrev pub IsSearchOf : List (List ℕ) → Search → Type 0
IsSearchOf lists s = IsSearch lists s.marks.items s.looked.items s.path.items

-- a new node may be put on the path and taken off again
abbrev pub weight : Mark → ℕ
weight Unvisited = 2
weight m = 0

abbrev pub steps_left : List (List ℕ) → List ℕ → ℕ
steps_left [] looked = 0
steps_left (ns ∷ lists) [] = 0
steps_left (ns ∷ lists) (k ∷ looked) = (length ns - k) + steps_left lists looked

abbrev pub work : List (List ℕ) → List Mark → List ℕ → List ℕ → ℕ
work lists marks looked path = sum_by weight marks + steps_left lists looked + length path

abbrev pub work_of : List (List ℕ) → Search → ℕ
work_of lists s = work lists s.marks.items s.looked.items s.path.items

abbrev pub IsMet : Search → ℕ → Type 0
IsMet s n = mark_of s.marks.items n ≢ Unvisited

abbrev pub KeepsMet : Search → Search → Type 0
KeepsMet old new = (n : ℕ) → IsMet old n → IsMet new n

abbrev pub is_reaching : Mark → Bool
is_reaching Cyclic = true
is_reaching m = false
