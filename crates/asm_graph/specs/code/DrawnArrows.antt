-- Bridge to the code. Edges as the code draws them.
--     drawn_line arrow         the line of an edge
--     IsArrow drawn arrow      it is drawn from its node to where it leads, with what is written at
--                              it, and is red if it is one of these
--     AreArrows                so is each edge of a graph, in their order
use Rattle.std.specs.Prelude.{◌≡◌, ℕ, List, ◌++◌, codes}
use Rattle.asm_syntax.specs.SourceTree.{Spec}
use Rattle.asm_graph.specs.Arrows.{DrawnEdge, all_edges, edge_label}
use Rattle.asm_graph.specs.Dot.{end_name, node_name, quoted, red_mark}
use Rattle.asm_graph.specs.Graphs.{Pairs}
use Rattle.asm_graph.specs.Paths.{is_among}
use Rattle.asm_graph.specs.declared.arrow.Arrow.{Arrow}
use Rattle.asm_graph.specs.declared.graph.Node.{Node}
use Rattle.asm_graph.specs.declared.graph.Step.{Step}

abbrev pub drawn_line : Arrow → List ℕ
drawn_line arrow =
    codes "  " ++ (node_name arrow.from ++ (codes " -> " ++ (end_name arrow.to ++ (codes " [label=" ++ (quoted arrow.label.items ++ (red_mark arrow.is_red ++ codes "];\n"))))))

-- the edges of this path are red
module _ (s : Spec) (turns : ℕ) (path : List (ℕ × ℕ)) where
  pub record IsArrow (drawn : DrawnEdge) (arrow : Arrow) : Type 0 where
    pub from : arrow.from ≡ drawn.number
    pub to : arrow.to ≡ drawn.edge.to
    pub label : arrow.label.items ≡ edge_label s turns drawn
    pub red : arrow.is_red ≡ is_among path drawn.number drawn.own

  abbrev pub AreArrows : List Node → List Step → List Arrow → Type 0
  AreArrows nodes steps arrows = Pairs IsArrow (all_edges 0 nodes steps) arrows
