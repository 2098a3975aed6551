-- Definition. The edges of a graph that a run takes.
--     takes s e              who says what is taken takes the choices of the edge
--     edges_at steps i       the edges from the node with this number
--     taken_edge steps s i   the number of the first of them whose choices are taken, if there is one
--     walk left number i     the edges that a run takes from a node on, in at most `left` steps that
--                            count from `number`: each by the number of its node and its own
--     run_edges limit        those of the run of at most `limit` steps, from the first node on
--     is_among path i k      the edge with the number k from the node i is one of these
use Rattle.std.specs.Prelude.{ℕ, zero, suc, Bool, ◌&&◌, ◌==◌, List, [], ◌∷◌, Option, Some, None, slice_get}
use Rattle.std.specs.List.{list_all, list_any, position}
use Rattle.asm_reader.specs.ScriptLines.{Script}
use Rattle.asm_explore.specs.TakenChoices.{Situation, picked}
use Rattle.asm_graph.specs.declared.graph.Edge.{Edge}
use Rattle.asm_graph.specs.declared.graph.EdgeEnd.{EdgeEnd}
use Rattle.asm_graph.specs.declared.graph.EdgeEnd.TheVariants as target
use Rattle.asm_graph.specs.declared.graph.Step.{Step}
use Rattle.asm_graph.specs.declared.graph.Step.TheVariants as step

abbrev pub takes : Situation → Edge → Bool
takes s e = list_all (λ c. picked s c.path == c.number) e.choices.items

abbrev pub edges_shown : Option Step → List Edge
edges_shown None = []
edges_shown (Some step.Cut) = []
edges_shown (Some step.Crowded) = []
edges_shown (Some (step.Edges es)) = es.items

abbrev pub edges_at : List Step → ℕ → List Edge
edges_at steps i = edges_shown (slice_get steps i)

abbrev pub taken_edge : List Step → Situation → ℕ → Option ℕ
taken_edge steps s i = position (takes s) (edges_at steps i)

-- ---- the way of a run

abbrev pub node_then : EdgeEnd → (ℕ → List (ℕ × ℕ)) → List (ℕ × ℕ)
node_then (target.Node i) rest = rest i
node_then (target.Fault f) rest = []

abbrev pub end_then : Option Edge → (ℕ → List (ℕ × ℕ)) → List (ℕ × ℕ)
end_then None rest = []
end_then (Some e) rest = node_then e.to rest

-- an edge that is taken from the node i, if one is, and what comes after it
abbrev pub edge_then : (i : ℕ) → List Edge → Option ℕ → (ℕ → List (ℕ × ℕ)) → List (ℕ × ℕ)
edge_then i es None rest = []
edge_then i es (Some k) rest = (i, k) ∷ end_then (slice_get es k) rest

module _ (steps : List Step) (script : Script) where
  abbrev pub walk : (left number i : ℕ) → List (ℕ × ℕ)
  walk zero number i = []
  walk (suc left) number i =
      let s : Situation = record { script = script; step = number } in
      edge_then i (edges_at steps i) (taken_edge steps s i) (λ j. walk left (suc number) j)

  abbrev pub run_edges : (limit : ℕ) → List (ℕ × ℕ)
  run_edges limit = walk limit 1 0

abbrev pub is_among : List (ℕ × ℕ) → (i k : ℕ) → Bool
is_among path i k = list_any (λ p. (p.0 == i) && (p.1 == k)) path
