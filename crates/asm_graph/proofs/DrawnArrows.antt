-- Free. Edges as they are drawn, one after the other.
--     other_step                   the script of an edge has a line for step 1 alone
--     joined_first, joined_next    one more of what stands between marks
--     said_more, said_count        elements with their variables
--     behind_elements, no_elements    what stands behind them
--     asked_more, asked_count      choices of which a label tells
--     edges_more, all_more         the edges of one edge more, and of one step more
--     lines_drawn                  the lines of edges as the code draws them
use Rattle.std.proofs.Common.{◌≡◌, ◌∙◌, ℕ, zero, suc, ◌+◌, ◌<◌, ◌&&◌, false, cond, nat_eq, Some, None, List, [], ◌∷◌, ◌++◌, length, map, min, take, get_or, codes, refl, sym, ap, append_assoc, append-nil, arith}
use Rattle.std.specs.Cmp.Lexicographic.{pointwise}
use Rattle.std.specs.List.{enumerate_from, flat_map, join_by}
use Rattle.std.proofs.lemmas.List.{length-map, length-take-le, map-append}
use Rattle.asm_state.specs.declared.value.Value.{Value}
use Rattle.asm_reader.specs.ScriptLines.{exact_choice}
use Rattle.std.specs.Borrow.{Bor}
use Rattle.asm_syntax.specs.SourceTree.{Spec}
use Rattle.asm_syntax.specs.declared.name.Name.{Name}
use Rattle.asm_explore.specs.ChoiceLines.{lines_for}
use Rattle.asm_explore.specs.RunChoices.{asked_said}
use Rattle.asm_explore.specs.code.AskedPieces.{all_said}
use Rattle.asm_explore.specs.declared.choices.choice_point.ChoicePoint.{ChoicePoint}
use Rattle.asm_explore.specs.declared.outcomes.listed_outcome.Choice.{Choice}
use Rattle.asm_graph.specs.Arrows.{DrawnEdge, all_edges, drawn_from, edges_in, edges_of, elements_text, given_text}
use Rattle.asm_explore_texts.specs.code.TextPlaces.{elements_said}
use Rattle.asm_graph.specs.Dot.{arrow_line, end_name, node_name, quoted, red_mark}
use Rattle.asm_graph.specs.Graphs.{Pairs}
use Rattle.asm_graph.specs.code.DrawnArrows.{IsArrow, drawn_line}
use Rattle.asm_graph.specs.declared.arrow.Arrow.{Arrow}
use Rattle.asm_graph.specs.declared.graph.Edge.{Edge}
use Rattle.asm_graph.specs.declared.graph.Node.{Node}
use Rattle.asm_graph.specs.declared.graph.Step.{Step}
use Rattle.asm_graph.proofs.Texts.{join_more, mark, one_more}

-- ---- scripts

not_one : (step : ℕ) → ¬ (step ≡ 1) → nat_eq 1 step ≡ false
not_one step other = grind (arith)

pub other_step : (step : ℕ) (p : List ℕ) (cs : List Choice) → ¬ (step ≡ 1) → exact_choice (lines_for 1 cs) step p ≡ None
other_step step p [] other = refl
other_step step p (c ∷ cs) other =
    ap (λ t. cond (t && pointwise nat_eq c.path p) (Some c.number) (exact_choice (lines_for 1 cs) step p)) (not_one step other) ∙ other_step step p cs other

-- ---- elements

module _ {X : Type 0} (f : X → List ℕ) (sep : List ℕ) (ys zs : List X) (x : X) (more : zs ≡ ys ++ x ∷ []) (start old new : List ℕ) (so_far : old ≡ start ++ join_by f sep ys) where
  joined_on : (between : List ℕ) → between ≡ mark sep ys → new ≡ old ++ (between ++ f x) → new ≡ start ++ join_by f sep zs
  joined_on between is grown =
      grown ∙ (λ j. so_far j ++ (is j ++ f x)) ∙ append_assoc start (join_by f sep ys) (mark sep ys ++ f x)
      ∙ ap (λ t. start ++ t) (sym (join_more f sep ys x) ∙ ap (join_by f sep) (sym more))

  pub joined_first : length ys ≡ 0 → new ≡ old ++ f x → new ≡ start ++ join_by f sep zs
  joined_first none grown = joined_on [] (no_mark ys none) grown
    where
      no_mark : (ys : List X) → length ys ≡ 0 → [] ≡ mark sep ys
      no_mark [] none = refl
      no_mark (y ∷ ys) none = absurd (omega (arith, none))

  pub joined_next : 0 < length ys → new ≡ (old ++ sep) ++ f x → new ≡ start ++ join_by f sep zs
  joined_next some grown = joined_on sep (is_mark ys some) (grown ∙ append_assoc old sep (f x))
    where
      is_mark : (ys : List X) → 0 < length ys → sep ≡ mark sep ys
      is_mark [] some = absurd (omega (arith, some))
      is_mark (y ∷ ys) some = refl

-- the elements so far, and one more
pub said_more : (xs : List (Bor Name)) (vs : List Value) (k : ℕ) (x : Bor Name) (v : Value) → k < length xs → k < length vs → x ≡ get_or xs k x → v ≡ get_or vs k v
    → take (k + 1) (elements_said xs vs) ≡ take k (elements_said xs vs) ++ (x.now.text, v) ∷ []
said_more [] vs k x v low few is are = absurd (omega (arith, low))
said_more (y ∷ xs) [] k x v low few is are = absurd (omega (arith, few))
said_more (y ∷ xs) (w ∷ vs) zero x v low few is are = ap (λ e. e ∷ []) (λ j. ((sym is j).now.text, sym are j))
said_more (y ∷ xs) (w ∷ vs) (suc k) x v low few is are =
    let up : suc k + 1 ≡ suc (k + 1) = omega arith in
    ap (λ n. take n (elements_said (y ∷ xs) (w ∷ vs))) up ∙ ap (λ es. (y.now.text, w) ∷ es) (said_more xs vs k x v (omega (arith, low)) (omega (arith, few)) is are)

pub said_count : (xs : List (Bor Name)) (vs : List Value) → length (elements_said xs vs) ≡ min (length xs) (length vs)
said_count [] vs = omega arith
said_count (x ∷ xs) [] = omega arith
said_count (x ∷ xs) (v ∷ vs) = omega (arith, said_count xs vs)

pub behind_elements : (s : Spec) (es : List (List ℕ × Value)) → 0 < length es → join_by (given_text s) (codes ", ") es ++ codes ": " ≡ elements_text s es
behind_elements s [] some = absurd (omega (arith, some))
behind_elements s (e ∷ es) some = refl

pub no_elements : (s : Spec) (es : List (List ℕ × Value)) → length es ≡ 0 → elements_text s es ≡ []
no_elements s [] none = refl
no_elements s (e ∷ es) none = absurd (omega (arith, none))

-- ---- labels

pub asked_more : (asked : List ChoicePoint) (k : ℕ) (a : ChoicePoint) → k < length asked → a ≡ get_or asked k a → all_said (take (k + 1) asked) ≡ all_said (take k asked) ++ asked_said a ∷ []
asked_more asked k a low is = ap all_said (one_more asked k a low is) ∙ map-append asked_said (take k asked) (a ∷ [])

pub asked_count : (asked : List ChoicePoint) (k : ℕ) → k < length asked → length (all_said (take k asked)) ≡ k
asked_count asked k low = length-map (take k asked) asked_said ∙ length-take-le k asked (omega (arith, low))

-- ---- edges

enumerated_more : {X : Type 0} (n : ℕ) (xs : List X) (y : X) (k : ℕ) → k ≡ n + length xs → enumerate_from n (xs ++ y ∷ []) ≡ enumerate_from n xs ++ (k, y) ∷ []
enumerated_more n [] y k is = let same : n ≡ k = omega (arith, is) in ap (λ m. (m, y) ∷ []) same
enumerated_more n (x ∷ xs) y k is = ap (λ ps. (n, x) ∷ ps) (enumerated_more (n + 1) xs y k (omega (arith, is)))

pub edges_more : (before : List DrawnEdge) (i : ℕ) (n : Node) (es : List Edge) (k : ℕ) (e : Edge) → k < length es → e ≡ get_or es k e
    → (before ++ edges_in i n (take k es)) ++ drawn_from i n (k, e) ∷ [] ≡ before ++ edges_in i n (take (k + 1) es)
edges_more before i n es k e low is =
    let count : k ≡ 0 + length (take k es) = omega (arith, low, length-take-le k es (omega (arith, low))) in
    append_assoc before (edges_in i n (take k es)) (drawn_from i n (k, e) ∷ [])
    ∙ ap (λ ds. before ++ ds)
    (sym (ap (edges_in i n) (one_more es k e low is) ∙ ap (map (drawn_from i n)) (enumerated_more 0 (take k es) e k count)
    ∙ map-append (drawn_from i n) (enumerate_from 0 (take k es)) ((k, e) ∷ [])))

edges_behind : (i : ℕ) (nodes : List Node) (steps : List Step) (n : Node) (step : Step) → length steps ≡ length nodes
    → all_edges i (nodes ++ n ∷ []) (steps ++ step ∷ []) ≡ all_edges i nodes steps ++ edges_of (i + length nodes) n step
edges_behind i [] [] n step same = append-nil (edges_of i n step) ∙ ap (λ j. edges_of j n step) (omega arith)
edges_behind i [] (w ∷ steps) n step same = absurd (omega (arith, same))
edges_behind i (m ∷ nodes) [] n step same = absurd (omega (arith, same))
edges_behind i (m ∷ nodes) (w ∷ steps) n step same =
    ap (λ ds. edges_of i m w ++ ds) (edges_behind (suc i) nodes steps n step (omega (arith, same)))
    ∙ sym (append_assoc (edges_of i m w) (all_edges (suc i) nodes steps) (edges_of (suc i + length nodes) n step))
    ∙ ap (λ j. (edges_of i m w ++ all_edges (suc i) nodes steps) ++ edges_of j n step) (omega arith)

pub all_more : (nodes : List Node) (steps : List Step) (i : ℕ) (n : Node) (step : Step) → i < length nodes → length steps ≡ length nodes → n ≡ get_or nodes i n → step ≡ get_or steps i step
    → all_edges 0 (take i nodes) (take i steps) ++ edges_of i n step ≡ all_edges 0 (take (i + 1) nodes) (take (i + 1) steps)
all_more nodes steps i n step low paired is_node is_step =
    let count : length (take i nodes) ≡ i = length-take-le i nodes (omega (arith, low)) in
    let same : length (take i steps) ≡ length (take i nodes) = length-take-le i steps (omega (arith, low, paired)) ∙ sym count in
    sym (ap (λ ns. all_edges 0 ns (take (i + 1) steps)) (one_more nodes i n low is_node)
    ∙ ap (all_edges 0 (take i nodes ++ n ∷ [])) (one_more steps i step (omega (arith, low, paired)) is_step)
    ∙ edges_behind 0 (take i nodes) (take i steps) n step same ∙ ap (λ j. all_edges 0 (take i nodes) (take i steps) ++ edges_of j n step) (omega (arith, count)))

-- ---- lines

module _ (s : Spec) (turns : ℕ) (path : List (ℕ × ℕ)) where
  line_drawn : (drawn : DrawnEdge) (arrow : Arrow) → IsArrow s turns path drawn arrow → drawn_line arrow ≡ arrow_line s turns path drawn
  line_drawn drawn arrow is = λ j.
      codes "  " ++ (node_name (is.from j) ++ (codes " -> " ++ (end_name (is.to j) ++ (codes " [label=" ++ (quoted (is.label j) ++ (red_mark (is.red j) ++ codes "];\n"))))))

  pub lines_drawn : (edges : List DrawnEdge) (arrows : List Arrow) → Pairs (IsArrow s turns path) edges arrows → flat_map drawn_line arrows ≡ flat_map (arrow_line s turns path) edges
  lines_drawn [] [] are = refl
  lines_drawn [] (arrow ∷ arrows) are = absurd are
  lines_drawn (drawn ∷ edges) [] are = absurd are
  lines_drawn (drawn ∷ edges) (arrow ∷ arrows) are = λ j. line_drawn drawn arrow are.0 j ++ lines_drawn edges arrows are.1 j
