-- Free. The edges that a run takes, and those that are marked.
--     walk_ends, walk_takes, walk_ends_at, walk_goes_on    how a walk goes on from a node
--     walk_here                   an edge that is taken
--     Marked whole rest marks     the edges of the whole that aren't marked are those of the rest
--     found_within                what is found in a list is there
--     all_marked, more_marked     nothing is left, or one edge less
--     within                      the node of an edge that is taken is there
--     row_read, row_past          rows by their numbers
--     mark_more                   one more in a row
--     no_rows                     in rows without a number nothing is marked
use Rattle.std.proofs.Common.{◌≡◌, ◌∙◌, ◌<◌, ◌≤◌, ℕ, zero, suc, Bool, true, false, ◌&&◌, List, [], ◌∷◌, ◌++◌, length, map, None, Some, Vec, Global, get_or, set, inl, inr, refl, sym, ap, arith}
use Rattle.std.specs.Prelude.{◌||◌, ◌==◌, cond, nat_lt, slice_get, slice_index_or}
use Rattle.std.specs.Prelude.{◌⊎◌}
use Rattle.std.specs.List.{list_any, position, position_or_len}
use Rattle.std.proofs.lemmas.Option.{slice_get-get_or}
use Rattle.std.proofs.lemmas.Bool.{cases_lt, ltb-true}
use Rattle.asm_reader.specs.ScriptLines.{Script}
use Rattle.asm_graph.specs.Paths.{edges_at, is_among, taken_edge, takes, walk}
use Rattle.asm_graph.specs.declared.graph.Edge.{Edge}
use Rattle.asm_graph.specs.declared.graph.EdgeEnd.TheVariants as target
use Rattle.asm_graph.specs.declared.graph.StepFault.{StepFault}
use Rattle.asm_graph.specs.declared.graph.Step.{Step}
use Rattle.asm_graph.specs.Paths.{end_then, edge_then, node_then}
use Rattle.asm_explore.specs.ListElements.{Each}
use Rattle.asm_graph.specs.code.EdgeMarks.{AreMarks, HasMore, has_mark}
use Rattle.asm_graph.specs.declared.edge_marks.EdgeMarks.{EdgeMarks}

module _ (steps : List Step) (script : Script) where
  pub walk_ends : (left number i : ℕ) → taken_edge steps (record { script = script; step = number }) i ≡ None → walk steps script (suc left) number i ≡ []
  walk_ends left number i none = ap (λ o. edge_then i (edges_at steps i) o (λ j. walk steps script left (suc number) j)) none

  pub walk_takes : (left number i k : ℕ) (e : Edge) → taken_edge steps (record { script = script; step = number }) i ≡ Some k → slice_get (edges_at steps i) k ≡ Some e
      → walk steps script (suc left) number i ≡ (i, k) ∷ node_then e.to (λ j. walk steps script left (suc number) j)
  walk_takes left number i k e taken is =
      ap (λ o. edge_then i (edges_at steps i) o (λ j. walk steps script left (suc number) j)) taken
      ∙ ap (λ o. (i, k) ∷ end_then o (λ j. walk steps script left (suc number) j)) is

  pub walk_ends_at : (left number i k : ℕ) (e : Edge) (f : StepFault) → taken_edge steps (record { script = script; step = number }) i ≡ Some k → slice_get (edges_at steps i) k ≡ Some e
      → e.to ≡ target.Fault f → walk steps script (suc left) number i ≡ (i, k) ∷ []
  walk_ends_at left number i k e f taken is to = walk_takes left number i k e taken is ∙ ap (λ t. (i, k) ∷ node_then t (λ j. walk steps script left (suc number) j)) to

  pub walk_goes_on : (left number i k j : ℕ) (e : Edge) → taken_edge steps (record { script = script; step = number }) i ≡ Some k → slice_get (edges_at steps i) k ≡ Some e
      → e.to ≡ target.Node j → walk steps script (suc left) number i ≡ (i, k) ∷ walk steps script left (suc number) j
  walk_goes_on left number i k j e taken is to = walk_takes left number i k e taken is ∙ ap (λ t. (i, k) ∷ node_then t (λ j. walk steps script left (suc number) j)) to

  pub walk_here : (number i k : ℕ) (es : List Edge) (e : Edge) → es ≡ edges_at steps i → position (takes (record { script = script; step = number })) es ≡ Some k → k < length es → e ≡ get_or es k e
      → (taken_edge steps (record { script = script; step = number }) i ≡ Some k) × (slice_get (edges_at steps i) k ≡ Some e)
  walk_here number i k es e are taken low is =
      (ap (position (takes (record { script = script; step = number }))) (sym are) ∙ taken, ap (λ xs. slice_get xs k) (sym are) ∙ slice_get-get_or es k e low ∙ ap Some (sym is))

found_by : (b : Bool) (m n k : ℕ) → nat_lt m n ≡ b → cond b (Some m) None ≡ Some k → k < n
found_by true m n k is same = let here : m ≡ k = cc in omega (arith, here, ltb-true m n is)
found_by false m n k is same = cc

pub found_within : {X : Type 0} (p : X → Bool) (xs : List X) (k : ℕ) → position p xs ≡ Some k → k < length xs
found_within p xs k is = found_by (nat_lt (position_or_len p xs) (length xs)) (position_or_len p xs) (length xs) k refl is

-- ---- marks

abbrev pub Marked : List (ℕ × ℕ) → List (ℕ × ℕ) → EdgeMarks → Type 0
Marked whole rest marks = (i k : ℕ) → is_among whole i k ≡ (has_mark marks i k || is_among rest i k)

or_none : (b : Bool) → (b || false) ≡ b
or_none true = refl
or_none false = refl

or_assoc : (a b c : Bool) → (a || (b || c)) ≡ ((a || b) || c)
or_assoc true b c = refl
or_assoc false b c = refl

pub all_marked : (whole rest : List (ℕ × ℕ)) (marks : EdgeMarks) → Marked whole rest marks → rest ≡ [] → AreMarks whole marks
all_marked whole rest marks h none i k = sym (h i k ∙ ap (λ path. has_mark marks i k || is_among path i k) none ∙ or_none (has_mark marks i k))

pub more_marked : (whole rest less : List (ℕ × ℕ)) (i k : ℕ) (old new : EdgeMarks) → Marked whole rest old → rest ≡ (i, k) ∷ less → HasMore old i k new → Marked whole less new
more_marked whole rest less i k old new h is more a b =
    h a b ∙ ap (λ path. has_mark old a b || is_among path a b) is
    ∙ or_assoc (has_mark old a b) ((i == a) && (k == b)) (is_among less a b) ∙ ap (λ t. t || is_among less a b) (sym (more a b))

pub within : (steps : List Step) (i k : ℕ) (e : Edge) → slice_get (edges_at steps i) k ≡ Some e → i < length steps
within [] i k e is = cc
within (s ∷ steps) zero k e is = omega arith
within (s ∷ steps) (suc i) k e is = omega (arith, within steps i k e is)

empty_row : (rows : List (Vec ℕ Global)) (i : ℕ) → Each (λ row. row.items ≡ []) rows → slice_index_or (map (λ row. row.items) rows) i [] ≡ []
empty_row [] i h = refl
empty_row (row ∷ rows) zero h = h.0
empty_row (row ∷ rows) (suc i) h = empty_row rows i h.1

-- ---- rows

eq_yes : (i j : ℕ) → i ≡ j → (i == j) ≡ true
eq_yes i j same = grind (arith, same)

eq_no : (i j : ℕ) → ¬ (i ≡ j) → (i == j) ≡ false
eq_no i j apart = grind (arith, apart)

cases_eq : (i j : ℕ) → (i ≡ j) ⊎ (¬ (i ≡ j))
cases_eq i j = elim (cases_lt i j) [ inl low ↦ inr (λ same. omega (arith, low, same)) | inr high ↦ elim (cases_lt j i) [ inl low ↦ inr (λ same. omega (arith, low, same)) | inr less ↦ inl (omega (arith, high, less)) ] ]

pub row_read : (rows : List (Vec ℕ Global)) (i : ℕ) (row : Vec ℕ Global) → i < length rows → row ≡ get_or rows i row → slice_index_or (map (λ row. row.items) rows) i [] ≡ row.items
row_read [] i row low is = absurd (omega (arith, low))
row_read (r ∷ rows) zero row low is = ap (λ r. r.items) (sym is)
row_read (r ∷ rows) (suc i) row low is = row_read rows i row (omega (arith, low)) is

pub row_past : (rows : List (Vec ℕ Global)) (i : ℕ) → length rows ≤ i → slice_index_or (map (λ row. row.items) rows) i [] ≡ []
row_past [] i past = refl
row_past (r ∷ rows) zero past = absurd (omega (arith, past))
row_past (r ∷ rows) (suc i) past = row_past rows i (omega (arith, past))

set_here : (rows : List (Vec ℕ Global)) (i : ℕ) (new : Vec ℕ Global) → i < length rows → slice_index_or (map (λ row. row.items) (set rows i new)) i [] ≡ new.items
set_here [] i new low = absurd (omega (arith, low))
set_here (r ∷ rows) zero new low = refl
set_here (r ∷ rows) (suc i) new low = set_here rows i new (omega (arith, low))

set_other : (rows : List (Vec ℕ Global)) (i j : ℕ) (new : Vec ℕ Global) → ¬ (i ≡ j) → slice_index_or (map (λ row. row.items) (set rows i new)) j [] ≡ slice_index_or (map (λ row. row.items) rows) j []
set_other [] i j new apart = refl
set_other (r ∷ rows) zero zero new apart = absurd (apart refl)
set_other (r ∷ rows) zero (suc j) new apart = refl
set_other (r ∷ rows) (suc i) zero new apart = refl
set_other (r ∷ rows) (suc i) (suc j) new apart = set_other rows i j new (λ same. apart (ap suc same))

any_more : (ns : List ℕ) (k n : ℕ) → list_any (λ m. m == n) (ns ++ k ∷ []) ≡ (list_any (λ m. m == n) ns || (k == n))
any_more [] k n = or_none (k == n)
any_more (m ∷ ns) k n = ap (λ b. (m == n) || b) (any_more ns k n) ∙ or_assoc (m == n) (list_any (λ m. m == n) ns) (k == n)

pub mark_more : (rows : List (Vec ℕ Global)) (i k : ℕ) (row new : Vec ℕ Global) → i < length rows → row ≡ get_or rows i row → new.items ≡ row.items ++ k ∷ [] → (j n : ℕ)
    → list_any (λ m. m == n) (slice_index_or (map (λ row. row.items) (set rows i new)) j [])
    ≡ (list_any (λ m. m == n) (slice_index_or (map (λ row. row.items) rows) j []) || ((i == j) && (k == n)))
mark_more rows i k row new low is grown j n =
    elim (cases_eq i j) [
      | inl same ↦
          let here : (i == j) ≡ true = eq_yes i j same in
          ap (λ m. list_any (λ x. x == n) (slice_index_or (map (λ row. row.items) (set rows i new)) m [])) (sym same)
          ∙ ap (list_any (λ x. x == n)) (set_here rows i new low ∙ grown ∙ ap (λ ns. ns ++ k ∷ []) (sym (row_read rows i row low is)))
          ∙ any_more (slice_index_or (map (λ row. row.items) rows) i []) k n
          ∙ ap (λ m. list_any (λ x. x == n) (slice_index_or (map (λ row. row.items) rows) m []) || (k == n)) same
          ∙ ap (λ b. list_any (λ x. x == n) (slice_index_or (map (λ row. row.items) rows) j []) || (b && (k == n))) (sym here)
      | inr apart ↦
          let other : (i == j) ≡ false = eq_no i j apart in
          ap (list_any (λ x. x == n)) (set_other rows i j new apart)
          ∙ sym (or_none (list_any (λ x. x == n) (slice_index_or (map (λ row. row.items) rows) j [])))
          ∙ ap (λ b. list_any (λ x. x == n) (slice_index_or (map (λ row. row.items) rows) j []) || (b && (k == n))) (sym other)
    ]

pub no_rows : (marks : EdgeMarks) → Each (λ row. row.items ≡ []) marks.rows.items → AreMarks [] marks
no_rows marks h i k = ap (λ row. list_any (λ n. n == k) row) (empty_row marks.rows.items i h)
