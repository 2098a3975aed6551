-- Definition. The edges of a graph, as they are drawn.
--     asked_along A e          what is asked along an edge, in the step from its state
--     taken asking             the candidate that is taken
--     elements_text elements   elements of foralls, each behind the name of its variable
--     chosen_text asking       what the `choose` takes, behind its variable and the elements of the
--                              foralls around it
--     label_text asked         a line for each choice
--     DrawnEdge                an edge with its number, and the node from which it leads, with the
--                              number of that
--     edges_in, edges_of, all_edges    those of some edges, of a step, and of all steps from a
--                              number on
--     edge_label drawn         what is written at an edge: what is asked along it
--     AlongLaw                 the step in which this is asked leads where the edge does
use Rattle.std.specs.Prelude.{ℕ, suc, List, [], ◌∷◌, ◌++◌, Option, None, Some, map, slice_index_or, codes}
use Rattle.std.specs.List.{enumerate_from, join_by}
use Rattle.asm_state.specs.Location.{State}
use Rattle.asm_state.specs.Signature.{Shape}
use Rattle.asm_state.specs.declared.value.Value.{Value}
use Rattle.asm_state.specs.declared.value.Value.TheVariants.{Undef}
use Rattle.asm_syntax.specs.SourceTree.{Name, Spec}
use Rattle.asm_check.specs.Shapes.{shape_of}
use Rattle.asm_meaning.specs.Declarations.{specification_of}
use Rattle.asm_meaning.specs.Run.{Specification}
use Rattle.asm_explore.specs.ChoicePoints.{Asking}
use Rattle.asm_explore.specs.RunChoices.{asked_from}
use Rattle.asm_explore.specs.TakenChoices.{steps_from}
use Rattle.asm_explore_texts.specs.Places.{Place, place_at, variable_in}
use Rattle.asm_graph.specs.Graphs.{GoesTo, IsEdge, along, state_at}
use Rattle.asm_graph.specs.Labels.{value_text}
use Rattle.asm_graph.specs.declared.graph.Edge.{Edge}
use Rattle.asm_graph.specs.declared.graph.Node.{Node}
use Rattle.asm_graph.specs.declared.graph.Step.{Step}
use Rattle.asm_graph.specs.declared.graph.Step.TheVariants as step

-- ---- what is asked along an edge

abbrev pub asked_along : Spec → (turns : ℕ) → State → Edge → List Asking
asked_along s turns A e = asked_from (specification_of s) turns A (along e.choices.items)

abbrev pub AlongLaw : Type 0
AlongLaw =
    (shape : Shape) (specification : Specification) (turns : ℕ) (nodes : List Node) (A : State) (e : Edge) → IsEdge shape specification turns nodes A e
    → GoesTo shape nodes A (steps_from specification turns A (along e.choices.items)) e.to

-- ---- labels

abbrev pub taken : Asking → Value
taken asking = slice_index_or asking.candidates asking.choice.number Undef

abbrev pub name_text : Option Name → List ℕ
name_text None = []
name_text (Some x) = x.text

abbrev pub elements_in : Option Place → List (List ℕ × Value)
elements_in None = []
elements_in (Some place) = place.elements

module _ (s : Spec) where
  -- a name and its value
  abbrev pub given_text : List ℕ × Value → List ℕ
  given_text e = e.0 ++ (codes " = " ++ value_text s e.1)

  abbrev pub elements_text : List (List ℕ × Value) → List ℕ
  elements_text [] = []
  elements_text (e ∷ es) = join_by given_text (codes ", ") (e ∷ es) ++ codes ": "

  -- a value that the `choose` at a place takes
  abbrev pub taken_text : Option Place → Value → List ℕ
  taken_text place v = elements_text (elements_in place) ++ given_text (name_text (variable_in place), v)

  abbrev pub chosen_text : Asking → List ℕ
  chosen_text asking = taken_text (place_at s asking.choice.path) (taken asking)

  abbrev pub label_text : List Asking → List ℕ
  label_text asked = join_by chosen_text (codes "\n") asked

-- ---- all edges

pub record DrawnEdge : Type 0 where
  pub number : ℕ
  pub node : Node
  pub own : ℕ
  pub edge : Edge

abbrev pub drawn_from : ℕ → Node → ℕ × Edge → DrawnEdge
drawn_from i n e = record { number = i; node = n; own = e.0; edge = e.1 }

abbrev pub edges_in : ℕ → Node → List Edge → List DrawnEdge
edges_in i n es = map (drawn_from i n) (enumerate_from 0 es)

abbrev pub edges_of : ℕ → Node → Step → List DrawnEdge
edges_of i n step.Cut = []
edges_of i n step.Crowded = []
edges_of i n (step.Edges es) = edges_in i n es.items

-- from this number on
abbrev pub all_edges : ℕ → List Node → List Step → List DrawnEdge
all_edges i [] steps = []
all_edges i (n ∷ nodes) [] = []
all_edges i (n ∷ nodes) (step ∷ steps) = edges_of i n step ++ all_edges (suc i) nodes steps

abbrev pub edge_label : Spec → (turns : ℕ) → DrawnEdge → List ℕ
edge_label s turns drawn = label_text s (asked_along s turns (state_at (shape_of s) drawn.node) drawn.edge)
