-- Definition. What is written in a node.
--     value_text s v, location_text s l   a value, and a location, as the specification s writes
--                                         them
--     NamedLaw                            a location is named by what is written of it in a node
--     content_lines s l v                 a line for a location that isn't undef, and else none
--     shown_by s names l                  a location is shown: one that is named, or any, if there
--                                         are no names. A name is that of a location, or of its
--                                         function
--     shown_lines s names A l             the lines of a location, if it is shown
--     state_lines s names A               those of all locations of a state, in their order
--     shortened lines                     twelve of them at most, and `..` for the others
--     node_label s names i A step         the number of a node, its state, and whether its step
--                                         has too many outcomes
use Rattle.std.specs.Prelude.{◌≡◌, ℕ, Bool, true, false, ◌&&◌, cond, List, [], ◌∷◌, ◌++◌, length, take, slice_index_or, nat_le, if◌then◌else◌, codes, decimal}
use Rattle.std.specs.List.{flat_map, join_by}
use Rattle.std.specs.Fmt.{signed_decimal}
use Rattle.asm_state.specs.declared.value.Value.{Value}
use Rattle.asm_state.specs.declared.value.Value.TheVariants.{Undef, Truth, Number, Element}
use Rattle.asm_state.specs.Location.{Location, Proper, Stray, State}
use Rattle.asm_state.specs.Signature.{locations}
use Rattle.asm_state.specs.Updates.{is_proper}
use Rattle.asm_syntax.specs.SourceTree.{Spec}
use Rattle.asm_check.specs.Numbers.{elements_of, functions_of}
use Rattle.asm_check.specs.Shapes.{shape_of, texts_of}
use Rattle.asm_explore_table.specs.Tables.{is_named}
use Rattle.asm_graph.specs.declared.graph.Step.{Step}
use Rattle.asm_graph.specs.declared.graph.Step.TheVariants as step

-- ---- a state

abbrev pub function_text : Spec → ℕ → List ℕ
function_text s f = slice_index_or (texts_of (functions_of s)) f []

abbrev pub value_text : Spec → Value → List ℕ
value_text s Undef = codes "undef"
value_text s (Truth false) = codes "false"
value_text s (Truth true) = codes "true"
value_text s (Number n) = signed_decimal n.value
value_text s (Element e) = slice_index_or (texts_of (elements_of s)) e.index []

-- in brackets, with a comma and a space between each two
abbrev pub arguments_text : Spec → List Value → List ℕ
arguments_text s [] = []
arguments_text s (v ∷ vs) = codes "(" ++ (join_by (value_text s) (codes ", ") (v ∷ vs) ++ codes ")")

abbrev pub location_text : Spec → Location → List ℕ
location_text s (Proper f vs) = function_text s f ++ arguments_text s vs
location_text s (Stray f) = function_text s f

abbrev pub NamedLaw : Type 0
NamedLaw = (s : Spec) (l : Location) → is_named s (location_text s l ∷ []) l ≡ true

abbrev pub content_lines : Spec → Location → Value → List (List ℕ)
content_lines s l Undef = []
content_lines s l v = (location_text s l ++ (codes " = " ++ value_text s v)) ∷ []

abbrev pub shown_by : Spec → (names : List (List ℕ)) → Location → Bool
shown_by s [] l = true
shown_by s (name ∷ names) l = is_proper l && is_named s (name ∷ names) l

abbrev pub shown_lines : Spec → (names : List (List ℕ)) → State → Location → List (List ℕ)
shown_lines s names A l = cond (shown_by s names l) (content_lines s l (A l)) []

abbrev pub state_lines : Spec → (names : List (List ℕ)) → State → List (List ℕ)
state_lines s names A = flat_map (shown_lines s names A) (locations (shape_of s))

abbrev pub shortened : List (List ℕ) → List (List ℕ)
shortened lines = if nat_le (length lines) 12 then lines else take 12 lines ++ codes ".." ∷ []

abbrev pub crowd_lines : Step → List (List ℕ)
crowd_lines step.Cut = []
crowd_lines step.Crowded = codes "too many outcomes" ∷ []
crowd_lines (step.Edges es) = []

abbrev pub node_label : Spec → (names : List (List ℕ)) → (number : ℕ) → State → Step → List ℕ
node_label s names i A step = join_by (λ line. line) (codes "\n") (decimal i ∷ (shortened (state_lines s names A) ++ crowd_lines step))
