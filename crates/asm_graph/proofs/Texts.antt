-- Free. Texts, piece by piece.
--     mark, mark_more, join_more      pieces with a mark between each two, and one more
--     node_lines_more                 lines of nodes, and those of one more
--     pieces_more                     the pieces of one more element
--     cut_short, not_cut              lines that are shown, if there are more than twelve or not
--     joined_next, mark_next          what is written of pieces with a mark between each two
--     pushed                          what is written, if it could be
--     node_lines_next                 the lines of the first nodes, and those of one more
--     fault_shown                     the line of a fault that some edge has
--     cut_text                        lines with `..` after them
--     seven_pieces                    a text of seven pieces
use Rattle.std.proofs.Common.{◌≡◌, ℕ, suc, ◌+◌, ◌≤◌, ◌<◌, Bool, true, false, List, [], ◌∷◌, ◌++◌, length, get_or, take, drop, refl, sym, ap, ◌∙◌, append_assoc, append-nil, arith}
use Rattle.std.specs.Prelude.{codes, nat_le, if◌then◌else◌, Result, Ok, Err, OnOk, is_ok}
use Rattle.std.specs.List.{flat_map, join_by, list_any}
use Rattle.std.proofs.lemmas.Bool.{le-leb, leb-true}
use Rattle.std.proofs.lemmas.Grind.{flat_map-append}
use Rattle.std.proofs.lemmas.List.{length-append, length-take-le, take-append-drop, take-append-le, take_all, take_more}
use Rattle.std.proofs.Math.Seq.{drop-cons}
use Rattle.asm_syntax.specs.SourceTree.{Spec}
use Rattle.asm_graph.specs.declared.graph.Node.{Node}
use Rattle.asm_graph.specs.declared.graph.Step.{Step}
use Rattle.asm_graph.specs.declared.graph.StepFault.{StepFault}
use Rattle.asm_graph.specs.Dot.{fault_line, fault_name, has_fault, node_line, node_lines}
use Rattle.asm_graph.specs.Labels.{shortened}

-- what is between elements and one more
abbrev pub mark : {X : Type 0} → List ℕ → List X → List ℕ
mark sep [] = []
mark sep (x ∷ xs) = sep

pub mark_more : {X : Type 0} (sep : List ℕ) (xs : List X) (x : X) → mark sep (xs ++ x ∷ []) ≡ sep
mark_more sep [] x = refl
mark_more sep (y ∷ xs) x = refl

pub join_more : {X : Type 0} (f : X → List ℕ) (sep : List ℕ) (xs : List X) (x : X) → join_by f sep (xs ++ x ∷ []) ≡ join_by f sep xs ++ (mark sep xs ++ f x)
join_more f sep [] x = append-nil (f x)
join_more f sep (y ∷ xs) x =
    ap (λ t. f y ++ t) (flat_map-append (λ z. sep ++ f z) xs (x ∷ []) ∙ ap (λ t. flat_map (λ z. sep ++ f z) xs ++ t) (append-nil (sep ++ f x)))
    ∙ sym (append_assoc (f y) (flat_map (λ z. sep ++ f z) xs) (sep ++ f x))

pub node_lines_more : (s : Spec) (names : List (List ℕ)) (i : ℕ) (nodes : List Node) (steps : List Step) (n : Node) (step : Step) → length steps ≡ length nodes
    → node_lines s names i (nodes ++ n ∷ []) (steps ++ step ∷ []) ≡ node_lines s names i nodes steps ++ node_line s names (i + length nodes) n step
node_lines_more s names i [] [] n step same = append-nil (node_line s names i n step) ∙ ap (λ j. node_line s names j n step) (omega arith)
node_lines_more s names i [] (w ∷ steps) n step same = absurd (omega (arith, same))
node_lines_more s names i (m ∷ nodes) [] n step same = absurd (omega (arith, same))
node_lines_more s names i (m ∷ nodes) (w ∷ steps) n step same =
    ap (λ t. node_line s names i m w ++ t) (node_lines_more s names (suc i) nodes steps n step (omega (arith, same)))
    ∙ sym (append_assoc (node_line s names i m w) (node_lines s names (suc i) nodes steps) (node_line s names (suc i + length nodes) n step))
    ∙ ap (λ j. (node_line s names i m w ++ node_lines s names (suc i) nodes steps) ++ node_line s names j n step) (omega arith)

-- ---- lines that are shown

pub pieces_more : {X Y : Type 0} (f : X → List Y) (xs : List X) (i : ℕ) (d : X) → i < length xs → flat_map f (take (i + 1) xs) ≡ flat_map f (take i xs) ++ f (get_or xs i d)
pieces_more f xs i d low =
    ap (flat_map f) (take_more xs i d low) ∙ flat_map-append f (take i xs) (get_or xs i d ∷ [])
    ∙ ap (λ ys. flat_map f (take i xs) ++ ys) (append-nil (f (get_or xs i d)))

pub not_cut : (lines : List (List ℕ)) → length lines ≤ 12 → shortened lines ≡ lines
not_cut lines few = ap (λ b. if b then lines else take 12 lines ++ codes ".." ∷ []) (le-leb (length lines) 12 few)

cut_by : (before : List (List ℕ)) (line : List ℕ) (rest : List (List ℕ)) → length before ≡ 12 → (b : Bool) → nat_le (length (before ++ line ∷ rest)) 12 ≡ b
    → (if b then before ++ line ∷ rest else take 12 (before ++ line ∷ rest) ++ codes ".." ∷ []) ≡ before ++ codes ".." ∷ []
cut_by before line rest full true is = absurd (omega (arith, leb-true (length (before ++ line ∷ rest)) 12 is, length-append before (line ∷ rest), full))
cut_by before line rest full false is = ap (λ ls. ls ++ codes ".." ∷ []) (take-append-le 12 before (line ∷ rest) (omega (arith, full)) ∙ take_all 12 before (omega (arith, full)))

pub cut_short : {X : Type 0} (f : X → List (List ℕ)) (xs : List X) (i : ℕ) (d : X) (line : List ℕ) → i < length xs → length (flat_map f (take i xs)) ≡ 12 → f (get_or xs i d) ≡ line ∷ []
    → shortened (flat_map f xs) ≡ flat_map f (take i xs) ++ codes ".." ∷ []
cut_short f xs i d line low full one =
    let before = flat_map f (take i xs) in
    let rest = flat_map f (drop (suc i) xs) in
    let whole : flat_map f xs ≡ before ++ line ∷ rest =
    ap (flat_map f) (sym (take-append-drop i xs)) ∙ flat_map-append f (take i xs) (drop i xs)
    ∙ ap (λ ys. before ++ flat_map f ys) (drop-cons xs i d low) ∙ ap (λ ls. before ++ (ls ++ rest)) one in
    ap shortened whole ∙ cut_by before line rest full (nat_le (length (before ++ line ∷ rest)) 12) refl

-- ---- pieces that are written one after the other

regroup : (a b c d : List ℕ) → ((a ++ b) ++ c) ++ d ≡ a ++ (b ++ (c ++ d))
regroup a b c d = simp append_assoc

module _ {X : Type 0} (f : X → List ℕ) (sep : List ℕ) (xs : List X) (i : ℕ) (x : X) (more : take (i + 1) xs ≡ take i xs ++ x ∷ []) where
  pub joined_next : (start old mid new before : List ℕ) → old ≡ start ++ join_by f sep (take i xs) → before ≡ mark sep (take i xs) → mid ≡ old ++ before → new ≡ mid ++ f x
      → new ≡ start ++ join_by f sep (take (i + 1) xs)
  joined_next start old mid new before is_old is_before is_mid is_new =
      is_new ∙ ap (λ t. t ++ f x) (is_mid ∙ (λ k. is_old k ++ is_before k)) ∙ regroup start (join_by f sep (take i xs)) (mark sep (take i xs)) (f x)
      ∙ ap (λ t. start ++ t) (sym (join_more f sep (take i xs) x)) ∙ ap (λ ys. start ++ join_by f sep ys) (sym more)

  pub mark_next : sep ≡ mark sep (take (i + 1) xs)
  mark_next = sym (ap (mark sep) more ∙ mark_more sep (take i xs) x)

-- what is written last, if it could be
pub pushed : {T E : Type 0} (r : Result T E) (new old piece whole : List ℕ) → new ≡ (if is_ok r then old ++ piece else old) → old ++ piece ≡ whole → OnOk r (new ≡ whole)
pushed (Ok v) new old piece whole is_new same = is_new ∙ same
pushed (Err e) new old piece whole is_new same = tt

module _ {X : Type 0} (xs : List X) (i : ℕ) (x : X) (low : i < length xs) (is : x ≡ get_or xs i x) where
  pub one_more : take (i + 1) xs ≡ take i xs ++ x ∷ []
  one_more = take_more xs i x low ∙ ap (λ y. take i xs ++ y ∷ []) (sym is)

pub node_lines_next : (s : Spec) (names : List (List ℕ)) (nodes : List Node) (steps : List Step) (i : ℕ) (n : Node) (step : Step) (start old new : List ℕ) → i < length nodes → length steps ≡ length nodes
    → n ≡ get_or nodes i n → step ≡ get_or steps i step → old ≡ start ++ node_lines s names 0 (take i nodes) (take i steps) → new ≡ old ++ node_line s names i n step
    → new ≡ start ++ node_lines s names 0 (take (i + 1) nodes) (take (i + 1) steps)
node_lines_next s names nodes steps i n step start old new low paired is_node is_step is_old is_new =
    let count : length (take i nodes) ≡ i = length-take-le i nodes (omega (arith, low)) in
    let same : length (take i steps) ≡ length (take i nodes) = length-take-le i steps (omega (arith, low, paired)) ∙ sym count in
    let whole : node_lines s names 0 (take (i + 1) nodes) (take (i + 1) steps) ≡ node_lines s names 0 (take i nodes) (take i steps) ++ node_line s names i n step =
    ap (λ ns. node_lines s names 0 ns (take (i + 1) steps)) (one_more nodes i n low is_node)
    ∙ ap (node_lines s names 0 (take i nodes ++ n ∷ [])) (one_more steps i step (omega (arith, low, paired)) is_step)
    ∙ node_lines_more s names 0 (take i nodes) (take i steps) n step same ∙ ap (λ j. node_lines s names 0 (take i nodes) (take i steps) ++ node_line s names j n step) (omega (arith, count)) in
    is_new ∙ ap (λ t. t ++ node_line s names i n step) is_old ∙ append_assoc start (node_lines s names 0 (take i nodes) (take i steps)) (node_line s names i n step) ∙ ap (λ t. start ++ t) (sym whole)

pub fault_shown : (steps : List Step) (f : StepFault) (start : List ℕ) → list_any (has_fault f) steps ≡ true
    → ((start ++ codes "  ") ++ fault_name f) ++ codes " [shape=octagon, color=red, fontcolor=red];\n" ≡ start ++ fault_line steps f
fault_shown steps f start some =
    regroup start (codes "  ") (fault_name f) (codes " [shape=octagon, color=red, fontcolor=red];\n")
    ∙ ap (λ b. start ++ (if b then codes "  " ++ (fault_name f ++ codes " [shape=octagon, color=red, fontcolor=red];\n") else [])) (sym some)

pub cut_text : (start : List ℕ) (lines : List (List ℕ))
    → ((start ++ flat_map (λ line. codes "\n" ++ line) lines) ++ codes "\n") ++ codes ".." ≡ start ++ flat_map (λ line. codes "\n" ++ line) (lines ++ codes ".." ∷ [])
cut_text start lines =
    let each : List (List ℕ) → List ℕ = λ ls. flat_map (λ line. codes "\n" ++ line) ls in
    append_assoc (start ++ each lines) (codes "\n") (codes "..") ∙ append_assoc start (each lines) (codes "\n" ++ codes "..")
    ∙ ap (λ t. start ++ t) (sym (flat_map-append (λ line. codes "\n" ++ line) lines (codes ".." ∷ [])))

regroup_seven : (a b c d e f g : List ℕ) → (((((a ++ b) ++ c) ++ d) ++ e) ++ f) ++ g ≡ a ++ (b ++ (c ++ (d ++ (e ++ (f ++ g)))))
regroup_seven a b c d e f g = simp append_assoc

pub seven_pieces : (a b c d e f g t u v w x y z : List ℕ) → t ≡ a → u ≡ t ++ b → v ≡ u ++ c → w ≡ v ++ d → x ≡ w ++ e → y ≡ x ++ f → z ≡ y ++ g
    → z ≡ a ++ (b ++ (c ++ (d ++ (e ++ (f ++ g)))))
seven_pieces a b c d e f g t u v w x y z first second third fourth fifth sixth last =
    last ∙ ap (λ s. s ++ g) (sixth ∙ ap (λ s. s ++ f) (fifth ∙ ap (λ s. s ++ e) (fourth ∙ ap (λ s. s ++ d) (third ∙ ap (λ s. s ++ c) (second ∙ ap (λ s. s ++ b) first)))))
    ∙ regroup_seven a b c d e f g
