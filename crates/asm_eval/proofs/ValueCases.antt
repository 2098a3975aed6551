-- Free. The value of each variant of the program's codes.
use Rattle.std.proofs.Common.{◌≡◌, ℕ, suc, zero, ◌+◌, ◌-◌, ◌<◌, ◌≤◌, List, [], ◌∷◌, length, map, drop, get_or, refl, sym, ap, ◌∙◌, arith}
use Rattle.std.specs.Prelude.{slice_get}
use Rattle.std.proofs.lemmas.List.{drop_more}
use Rattle.std.proofs.Math.ListN.{drop_of_length-le}
use Rattle.asm_state.specs.declared.operation.Op.{Op}
use Rattle.asm_state.specs.declared.operation.Op.TheVariants.{Add, Remainder}
use Rattle.asm_state.specs.declared.value.Value.{Value}
use Rattle.asm_state.specs.Location.{State}
use Rattle.asm_state.specs.Operation.{op}
use Rattle.asm_state.specs.Signature.{Shape}
use Rattle.asm_meaning.specs.Declarations.{function_at}
use Rattle.asm_meaning.specs.Value.{Reading}
use Rattle.asm_meaning.specs.code.TermValues.{held}
use Rattle.asm_code.specs.code.CodeTree as tree
use Rattle.asm_code.specs.code.CodeViews.{code_of, codes_of, link_of, links_of}
use Rattle.asm_code.specs.code.Readings.{always, at_position, content, in_row, in_grid, position_from, reading, chained}
use Rattle.asm_code.specs.declared.code.Code.{Code}
use Rattle.asm_code.specs.declared.code.Code.TheVariants as code
use Rattle.asm_code.proofs.CodeForms.{code_laws-constant_form as constant_form, code_laws-local_form as local_form, code_laws-cell_form as cell_form}
use Rattle.asm_eval.proofs.Members.{readings_map}

-- a position after the first one
pub later : (r : Reading) (rs : List Reading) (i : ℕ) → ¬ (i ≡ 0) → at_position (r ∷ rs) i ≡ at_position rs (i - 1)
later r rs zero h = absurd (h refl)
later r rs (suc i) h = let e : i ≡ suc i - 1 = omega arith in ap (at_position rs) e

module _ (shape : Shape) (rs : List Reading) (A : State) where
  pub of_constant : (t : Code) (v : Value) → t ≡ code.Constant v → v ≡ reading shape (code_of t) rs A
  unfolding reading
  of_constant t v is = sym (ap (λ k. reading shape k rs A) (constant_form t v is))

  pub of_local : (t : Code) (i : ℕ) (v : Value) → t ≡ code.Local i → v ≡ at_position rs i A → v ≡ reading shape (code_of t) rs A
  unfolding reading
  of_local t i v is valued = valued ∙ sym (ap (λ k. reading shape k rs A) (local_form t i is))

  -- the first position, under one value more, and those after it
  pub local_first : (v : Value) (i : ℕ) → i ≡ 0 → v ≡ reading shape (tree.Local i) (always v ∷ rs) A
  unfolding reading
  local_first v i is = sym (ap (λ j. at_position (always v ∷ rs) j A) is)

  pub local_later : (v w : Value) (i : ℕ) → ¬ (i ≡ 0) → w ≡ at_position rs (i - 1) A → w ≡ reading shape (tree.Local i) (always v ∷ rs) A
  unfolding reading
  local_later v w i other valued = valued ∙ sym (ap (λ r. r A) (later (always v) rs i other))

  pub of_cell : (t : Code) (n : ℕ) (v : Value) → t ≡ code.Cell n → v ≡ content shape A n → v ≡ reading shape (code_of t) rs A
  unfolding reading
  of_cell t n v is valued = valued ∙ sym (ap (λ k. reading shape k rs A) (cell_form t n is))

  pub row_is : (first low many : ℕ) (t : tree.Code) (v w : Value) → v ≡ reading shape t rs A → w ≡ in_row shape A first (position_from low many v) → w ≡ reading shape (tree.Row first low many t) rs A
  unfolding reading
  row_is first low many t v w valued whole = whole ∙ ap (λ x. in_row shape A first (position_from low many x)) valued

  pub grid_is : (first low rows left columns : ℕ) (s t : tree.Code) (v v' w : Value) → v ≡ reading shape s rs A → v' ≡ reading shape t rs A
      → w ≡ in_grid shape A first columns (position_from low rows v) (position_from left columns v') → w ≡ reading shape (tree.Grid first low rows left columns s t) rs A
  unfolding reading
  grid_is first low rows left columns s t v v' w row column whole =
      whole ∙ (λ i. in_grid shape A first columns (position_from low rows (row i)) (position_from left columns (column i)))

  pub with_is : (o : Op) (t : tree.Code) (right v w : Value) → v ≡ reading shape t rs A → w ≡ op o v right → w ≡ reading shape (tree.With o t right) rs A
  unfolding reading
  with_is o t right v w valued whole = whole ∙ ap (λ x. op o x right) valued

  pub turned_is : (t : tree.Code) (m n v w x : Value) → v ≡ reading shape t rs A → w ≡ op Add v m → x ≡ op Remainder w n → x ≡ reading shape (tree.With Remainder (tree.With Add t m) n) rs A
  unfolding reading
  turned_is t m n v w x valued sum whole = whole ∙ ap (λ y. op Remainder y n) (sum ∙ ap (λ y. op Add y m) valued)

  pub one_is : (body t : tree.Code) (v w : Value) → v ≡ reading shape t rs A → w ≡ reading shape body (always v ∷ []) A → w ≡ reading shape (tree.Derived body (tree.code_then t tree.no_codes)) rs A
  unfolding reading
  one_is body t v w valued whole = whole ∙ ap (λ x. reading shape body (always x ∷ []) A) valued

  pub two_is : (body s t : tree.Code) (u v w : Value) → u ≡ reading shape s rs A → v ≡ reading shape t rs A → w ≡ reading shape body (always u ∷ always v ∷ []) A
      → w ≡ reading shape (tree.Derived body (tree.code_then s (tree.code_then t tree.no_codes))) rs A
  unfolding reading
  two_is body s t u v w first second whole = whole ∙ (λ i. reading shape body (always (first i) ∷ always (second i) ∷ []) A)

  pub both_is : (o : Op) (s t : tree.Code) (v v' w : Value) → v ≡ reading shape s rs A → v' ≡ reading shape t rs A → w ≡ op o v v' → w ≡ reading shape (tree.Both o s t) rs A
  unfolding reading
  both_is o s t v v' w left right whole = whole ∙ (λ i. op o (left i) (right i))

  -- a chain goes on from the value of its first code
  pub chain_begins : (t : tree.Code) (links : tree.Links) (v : Value) → v ≡ reading shape t rs A → chained shape links v rs A ≡ reading shape (tree.Chain t links) rs A
  unfolding reading
  chain_begins t links v valued = ap (λ x. chained shape links x rs A) valued

  -- and on from each of its links
  pub chain_goes_on : (links : List (Op × Code)) (i : ℕ) (l : Op × Code) (total v w x : Value) → i < length links → l ≡ get_or links i l
      → chained shape (links_of (map link_of (drop i links))) total rs A ≡ x → v ≡ reading shape (code_of l.1) rs A → w ≡ op l.0 total v
      → chained shape (links_of (map link_of (drop (i + 1) links))) w rs A ≡ x
  unfolding chained
  chain_goes_on links i l total v w x below here so_far valued whole =
      ap (λ y. chained shape (links_of (map link_of (drop (i + 1) links))) y rs A) (whole ∙ ap (op l.0 total) valued)
      ∙ sym (ap (λ ks. chained shape (links_of (map link_of ks)) total rs A) (drop_more links i l below ∙ ap (λ k. k ∷ drop (i + 1) links) (sym here))) ∙ so_far

  -- to its end
  pub chain_ends : (links : List (Op × Code)) (i : ℕ) (total x : Value) → length links ≤ i → chained shape (links_of (map link_of (drop i links))) total rs A ≡ x → total ≡ x
  unfolding chained
  chain_ends links i total x past so_far = sym (ap (λ ks. chained shape (links_of (map link_of ks)) total rs A) (drop_of_length-le links past)) ∙ so_far

  pub of_held : (f : ℕ) (ts : List Code) (vs : List Value) (v : Value) → vs ≡ map (λ (t : Code). reading shape (code_of t) rs A) ts
      → v ≡ held (function_at shape f (slice_get shape.functions f)) vs A → v ≡ reading shape (tree.Held f (codes_of (map code_of ts))) rs A
  unfolding reading
  of_held f ts vs v are whole = whole ∙ ap (λ us. held (function_at shape f (slice_get shape.functions f)) us A) (are ∙ sym (readings_map shape rs A ts))

  pub of_derived : (body : Code) (ts : List Code) (vs : List Value) → vs ≡ map (λ (t : Code). reading shape (code_of t) rs A) ts
      → reading shape (code_of body) (map always vs) A ≡ reading shape (tree.Derived (code_of body) (codes_of (map code_of ts))) rs A
  unfolding reading
  of_derived body ts vs are = ap (λ us. reading shape (code_of body) (map always us) A) (are ∙ sym (readings_map shape rs A ts))
