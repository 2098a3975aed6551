-- Definition. The text of a graph, in the language of Graphviz.
--     escaped bytes        a text as it is written within quotes: a backslash before each quote and
--                          each backslash, `\n` for a line feed, and each byte from 128 on as the
--                          character with its number
--     quoted bytes         the same with the quotes
--     QuotedLaw            it ends at the second of them
--     is_quiet i step      each edge of the step leads back to the node with this number
--     node_line            the line of a node: its label with what these names show, a double border
--                          if it is the first one, red if its state isn't right, or is quiet and no
--                          run may rest in it, and grey if it is quiet, or dashed if no edges of it
--                          are shown
--     fault_line           the line of a kind of fault, if some edge has it
--     arrow_line path drawn    the line of an edge: from which node it leads where, its label, and
--                          whether it is red: if it is one of a path
--     dot_of s names graph lines    the whole text: the name of the specification, the nodes, the
--                          faults and these lines, and `}` in the last line
--     IsDotOf              such a text, with the lines of the edges
use Rattle.std.specs.Prelude.{◌≡◌, ℕ, suc, Bool, true, false, not, ◌&&◌, ◌||◌, ◌==◌, if◌then◌else◌, List, [], ◌∷◌, ◌++◌, codes, decimal, encode_utf8}
use Rattle.std.specs.List.{flat_map, list_all, list_any}
use Rattle.asm_syntax.specs.SourceTree.{Spec}
use Rattle.asm_check.specs.Shapes.{shape_of}
use Rattle.asm_graph.specs.declared.graph.Edge.{Edge}
use Rattle.asm_graph.specs.declared.graph.EdgeEnd.{EdgeEnd}
use Rattle.asm_graph.specs.declared.graph.EdgeEnd.TheVariants as target
use Rattle.asm_graph.specs.declared.graph.Graph.{Graph}
use Rattle.asm_graph.specs.declared.graph.Node.{Node}
use Rattle.asm_graph.specs.declared.graph.Step.{Step}
use Rattle.asm_graph.specs.declared.graph.Step.TheVariants as step
use Rattle.asm_graph.specs.declared.graph.StepFault.{StepFault}
use Rattle.asm_graph.specs.declared.graph.StepFault.TheVariants as fault
use Rattle.asm_graph.specs.Graphs.{state_at}
use Rattle.asm_graph.specs.Arrows.{DrawnEdge, all_edges, edge_label}
use Rattle.asm_graph.specs.Labels.{node_label}
use Rattle.asm_graph.specs.Paths.{is_among}

-- ---- texts within quotes

abbrev pub escaped_character : ℕ → List ℕ
escaped_character c = if c == 34 then codes "\\\"" else (if c == 92 then codes "\\\\" else (if c == 10 then codes "\\n" else encode_utf8 c))

abbrev pub escaped : List ℕ → List ℕ
escaped bytes = flat_map escaped_character bytes

abbrev pub quoted : List ℕ → List ℕ
quoted bytes = codes "\"" ++ (escaped bytes ++ codes "\"")

-- what follows the quote that ends a text: the first before which there is no backslash, or two
abbrev pub behind_quote : (after_backslash : Bool) → List ℕ → List ℕ
behind_quote after [] = []
behind_quote true (b ∷ bytes) = behind_quote false bytes
behind_quote false (b ∷ bytes) = if b == 34 then bytes else behind_quote (b == 92) bytes

abbrev pub QuotedLaw : Type 0
QuotedLaw = (bytes rest : List ℕ) → behind_quote false (escaped bytes ++ 34 ∷ rest) ≡ rest

-- ---- nodes

abbrev pub is_node : ℕ → EdgeEnd → Bool
is_node i (target.Node j) = j == i
is_node i (target.Fault f) = false

abbrev pub is_quiet : ℕ → Step → Bool
is_quiet i step.Cut = false
is_quiet i step.Crowded = false
is_quiet i (step.Edges es) = list_all (λ (e : Edge). is_node i e.to) es.items

abbrev pub first_mark : ℕ → List ℕ
first_mark i = if i == 0 then codes ", peripheries=2" else []

abbrev pub red_mark : Bool → List ℕ
red_mark is_red = if is_red then codes ", color=red, fontcolor=red" else []

abbrev pub wrong_mark : (quiet : Bool) → Node → List ℕ
wrong_mark quiet n = red_mark (not n.right || (quiet && not n.rests))

abbrev pub style : (quiet : Bool) → Step → List ℕ
style quiet step.Cut = codes ", style=dashed"
style quiet step.Crowded = codes ", style=dashed"
style quiet (step.Edges es) = if quiet then codes ", style=filled, fillcolor=lightgrey" else []

abbrev pub marks : ℕ → Node → Step → List ℕ
marks i n step = first_mark i ++ (wrong_mark (is_quiet i step) n ++ style (is_quiet i step) step)

-- what a node is called
abbrev pub node_name : ℕ → List ℕ
node_name i = codes "s" ++ decimal i

abbrev pub node_line : Spec → (names : List (List ℕ)) → ℕ → Node → Step → List ℕ
node_line s names i n step =
    codes "  " ++ (node_name i ++ (codes " [label=" ++ (quoted (node_label s names i (state_at (shape_of s) n) step) ++ (marks i n step ++ codes "];\n"))))

-- from this number on
abbrev pub node_lines : Spec → (names : List (List ℕ)) → ℕ → List Node → List Step → List ℕ
node_lines s names i [] steps = []
node_lines s names i (n ∷ nodes) [] = []
node_lines s names i (n ∷ nodes) (step ∷ steps) = node_line s names i n step ++ node_lines s names (suc i) nodes steps

-- ---- faults

abbrev pub faults : List StepFault
faults = fault.Clash ∷ fault.Outside ∷ fault.Exhausted ∷ []

abbrev pub fault_name : StepFault → List ℕ
fault_name fault.Clash = codes "clash"
fault_name fault.Outside = codes "outside"
fault_name fault.Exhausted = codes "exhausted"

abbrev pub is_same_fault : StepFault → StepFault → Bool
is_same_fault fault.Clash fault.Clash = true
is_same_fault fault.Outside fault.Outside = true
is_same_fault fault.Exhausted fault.Exhausted = true
is_same_fault f g = false

abbrev pub is_fault : StepFault → EdgeEnd → Bool
is_fault f (target.Node j) = false
is_fault f (target.Fault g) = is_same_fault g f

abbrev pub has_fault : StepFault → Step → Bool
has_fault f step.Cut = false
has_fault f step.Crowded = false
has_fault f (step.Edges es) = list_any (λ (e : Edge). is_fault f e.to) es.items

abbrev pub fault_line : List Step → StepFault → List ℕ
fault_line steps f = if list_any (has_fault f) steps then codes "  " ++ (fault_name f ++ codes " [shape=octagon, color=red, fontcolor=red];\n") else []

-- ---- edges

abbrev pub end_name : EdgeEnd → List ℕ
end_name (target.Node i) = node_name i
end_name (target.Fault f) = fault_name f

abbrev pub arrow_line : Spec → (turns : ℕ) → (path : List (ℕ × ℕ)) → DrawnEdge → List ℕ
arrow_line s turns path drawn =
    codes "  " ++ (node_name drawn.number ++ (codes " -> " ++ (end_name drawn.edge.to ++ (codes " [label=" ++ (quoted (edge_label s turns drawn) ++ (red_mark (is_among path drawn.number drawn.own) ++ codes "];\n"))))))

-- ---- the whole

abbrev pub dot_of : Spec → (names : List (List ℕ)) → Graph → (lines : List ℕ) → List ℕ
dot_of s names graph lines =
    codes "digraph " ++ (quoted s.name.text ++ (codes " {\n  node [shape=box];\n"
    ++ (node_lines s names 0 graph.nodes.items graph.steps.items
    ++ (flat_map (fault_line graph.steps.items) faults
    ++ (lines ++ codes "}\n")))))

-- of the graph of the specification, with what these names show, and this path
pub record IsDotOf (s : Spec) (names : List (List ℕ)) (turns : ℕ) (path : List (ℕ × ℕ)) (graph : Graph) (dot : List ℕ) : Type 0 where
  pub is : dot ≡ dot_of s names graph (flat_map (arrow_line s turns path) (all_edges 0 graph.nodes.items graph.steps.items))
