-- Free. The codes of functions have the functions' values.
use Rattle.std.proofs.Common.{◌≡◌, ℕ, suc, ◌+◌, ◌*◌, ◌<◌, ◌≤◌, Bool, true, false, cond, List, [], ◌∷◌, length, Option, Some, None, refl, sym, ap, subst, ◌∙◌, arith, Box, Vec, Global}
use Rattle.std.specs.Prelude.{slice_get, slice_index_or, ◌&&◌, map}
use Rattle.std.specs.List.{list_any, position}
use Rattle.std.proofs.lemmas.List.{length-map}
use Rattle.std.proofs.lemmas.Option.{get_or_from_slice_get, slice_get_within}
use Rattle.asm_state.specs.declared.value.Value.{Value}
use Rattle.asm_state.specs.declared.value.Value.TheVariants.{Undef}
use Rattle.asm_state.specs.declared.function.Function.{Function}
use Rattle.asm_state.specs.declared.function.FunctionKind.{FunctionKind}
use Rattle.asm_state.specs.declared.function.FunctionKind.TheVariants.{Controlled, Static}
use Rattle.asm_state.specs.SignatureLimits.{Fits, IsDomainOf}
use Rattle.asm_state.specs.Location.{State, Proper, Stray}
use Rattle.asm_state.specs.Operation.{is_same}
use Rattle.asm_state.specs.Signature.{Shape, domain_in, functions_of}
use Rattle.asm_state.specs.code.FirstLocations.{argument_position, first_of, position_in_grid}
use Rattle.asm_state.specs.Tables.{Domain, argument_lists, is_in, table_value}
use Rattle.asm_state.proofs.Domains.{domain_laws}
use Rattle.asm_state.proofs.LocationLemmas.FirstLocations.{first_location_laws}
use Rattle.asm_meaning.specs.Declarations.{function_at, held_as}
use Rattle.asm_meaning.specs.Value.{Reading, read}
use Rattle.asm_meaning.specs.code.TermValues.{held}
use Rattle.asm_code.specs.code.CodeTree as tree
use Rattle.asm_code.specs.code.CodeViews.{code_of, codes_of}
use Rattle.asm_code.specs.code.Readings.{content, in_row, in_grid, position_from, position_in, universe_at, reading, readings}
use Rattle.asm_code.specs.code.SoundCodes.{AreCells, IsCell}
use Rattle.asm_code.specs.declared.code.Code.{Code}
use Rattle.asm_code.specs.declared.code.Grid.{Grid as GridPlace}
use Rattle.asm_code.specs.declared.code.CodeRange.{CodeRange}
use Rattle.asm_code.specs.code.CodeRanges.{IsCodeRange}
use Rattle.asm_code.specs.declared.code.Code.TheVariants as code
use Rattle.asm_code.proofs.CodeForms.{code_laws-count_of_codes as count_of_codes, code_laws-cell_form as cell_form, code_laws-constant_form as constant_form, code_laws-row_form as row_form, code_laws-grid_form as grid_form, code_laws-held_form as held_form}
use Rattle.asm_resolve.specs.code.FunctionCodes.{HasDomain, IsRead}
use Rattle.asm_resolve.proofs.SpanLaws.{place_is}
use Rattle.asm_resolve.proofs.FirstLocations.{cell_at, content_at, outside}

-- ---- how many lists of one and of two arguments there are

pub one_each : (us : List Value) → length (argument_lists (us ∷ [])) ≡ length us
one_each us = domain_laws.count us [] ∙ omega (arith, domain_laws.count_of_none)

pub two_each : (us ws : List Value) → length (argument_lists (us ∷ ws ∷ [])) ≡ length us * length ws
two_each us ws = domain_laws.count us (ws ∷ []) ∙ ap (λ n. length us * n) (one_each ws)

-- ---- without arguments

pub held_read : (shape : Shape) (f : ℕ) (ts : Vec Code Global) → f < functions_of shape → length ts.items ≤ 4 → IsRead shape f (codes_of (map code_of ts.items)) (code_of (code.FunctionAt f ts))
unfolding reading
held_read shape f ts below few = subst (IsRead shape f (codes_of (map code_of ts.items))) (sym (held_form (code.FunctionAt f ts) f ts refl)) (record {
  sound = λ sound. (below, subst (λ n. n ≤ 4) (sym (count_of_codes ts.items)) few, sound);
  reads = λ rs A. refl;
})

-- by the arguments that are in the list
pub listed_read : (shape : Shape) (f : ℕ) (ts : Vec Code Global) (us : List Code) → f < functions_of shape → length us ≤ 4 → ts.items ≡ us → IsRead shape f (codes_of (map code_of us)) (code_of (code.FunctionAt f ts))
listed_read shape f ts us below few are = subst (λ ks. IsRead shape f (codes_of (map code_of ks)) (code_of (code.FunctionAt f ts))) are (held_read shape f ts below (subst (λ ks. length ks ≤ 4) (sym are) few))

module _ (shape : Shape) (f : ℕ) (fits : Fits shape) where
  pub cell_read : HasDomain shape f [] → (n : ℕ) → n ≡ first_of shape f → IsRead shape f tree.no_codes (code_of (code.Cell n))
  unfolding reading
  cell_read has n first =
      let same : n ≡ n + 0 = omega arith in
      let one : 0 < length (argument_lists []) = omega (arith, domain_laws.count_of_none) in
      subst (IsRead shape f tree.no_codes) (sym (cell_form (code.Cell n) n refl)) (record {
        sound = λ none. subst (IsCell shape) (sym same) (cell_at shape f [] has n 0 fits.few_locations first one);
        reads = λ rs A. ap (content shape A) same ∙ content_at shape f [] has n 0 [] A first refl;
      })

  -- the position in a code range of a universe is the position in it
  pub placed : (over : ℕ) (us : List Value) → universe_at shape over ≡ us → (span : CodeRange) → IsCodeRange span us → (v : Value) → position_from span.low span.count v ≡ position_in shape over v
  placed over us there span spans v =
      ap (λ n. position_from span.low n v) spans.count ∙ place_is span.low us spans.in_turn v ∙ ap (position (is_same v)) (sym there)

  -- ---- with one

  module _ (over : ℕ) (has : HasDomain shape f (over ∷ [])) (n : ℕ) (first : n ≡ first_of shape f) where
    in_row_is : (A : State) (v : Value) (o : Option ℕ) → position_in shape over v ≡ o → in_row shape A n o ≡ held (function_at shape f (slice_get shape.functions f)) (v ∷ []) A
    in_row_is A v None e = outside shape f (over ∷ []) has (v ∷ []) A (first_location_laws.of_one (universe_at shape over) v ∙ e)
    in_row_is A v (Some i) e = content_at shape f (over ∷ []) has n i (v ∷ []) A first (first_location_laws.of_one (universe_at shape over) v ∙ e)

    row_cells : AreCells shape n (length (universe_at shape over))
    row_cells i below = cell_at shape f (over ∷ []) has n i fits.few_locations first (omega (arith, below, one_each (universe_at shape over)))

  pub row_read : (over : ℕ) → HasDomain shape f (over ∷ []) → (us : List Value) → slice_get shape.universes over ≡ Some us
      → (n : ℕ) → n ≡ first_of shape f → (span : CodeRange) → IsCodeRange span us → (s : Box Code Global) (t : Code) → s.value ≡ t
      → IsRead shape f (tree.code_then (code_of t) tree.no_codes) (code_of (code.Row n span s))
  unfolding reading
  row_read over has us is n first span spans s t same =
      let there = get_or_from_slice_get shape.universes over us [] is in
      subst (IsRead shape f (tree.code_then (code_of t) tree.no_codes)) (sym (row_form (code.Row n span s) n span s refl ∙ ap (λ (k : Code). tree.Row n span.low span.count (code_of k)) same)) (record {
        sound = λ ts_sound. (subst (AreCells shape n) (ap length there ∙ sym spans.count) (row_cells over has n first), ts_sound.0);
        reads = λ rs A. ap (in_row shape A n) (placed over us there span spans (reading shape (code_of t) rs A))
            ∙ in_row_is over has n first A (reading shape (code_of t) rs A) (position_in shape over (reading shape (code_of t) rs A)) refl;
      })

  -- ---- with two

  module _ (rows columns : ℕ) (has : HasDomain shape f (rows ∷ columns ∷ [])) (n : ℕ) (first : n ≡ first_of shape f) where
    pub at_position_of : (v w : Value) → argument_position (universe_at shape rows ∷ universe_at shape columns ∷ []) (v ∷ w ∷ [])
        ≡ position_in_grid (position_in shape rows v) (length (universe_at shape columns)) (position_in shape columns w)
    at_position_of v w = first_location_laws.of_two (universe_at shape rows) (universe_at shape columns) v w

    in_grid_is : (A : State) (v w : Value) (o p : Option ℕ) → position_in shape rows v ≡ o → position_in shape columns w ≡ p
        → in_grid shape A n (length (universe_at shape columns)) o p ≡ held (function_at shape f (slice_get shape.functions f)) (v ∷ w ∷ []) A
    in_grid_is A v w None p e g =
        outside shape f (rows ∷ columns ∷ []) has (v ∷ w ∷ []) A
        (at_position_of v w ∙ ap (λ q. position_in_grid q (length (universe_at shape columns)) (position_in shape columns w)) e)
    in_grid_is A v w (Some i) None e g =
        outside shape f (rows ∷ columns ∷ []) has (v ∷ w ∷ []) A (at_position_of v w ∙ (λ k. position_in_grid (e k) (length (universe_at shape columns)) (g k)))
    in_grid_is A v w (Some i) (Some j) e g =
        content_at shape f (rows ∷ columns ∷ []) has n (i * length (universe_at shape columns) + j) (v ∷ w ∷ []) A first
        (at_position_of v w ∙ (λ k. position_in_grid (e k) (length (universe_at shape columns)) (g k)))

    grid_cells : AreCells shape n (length (universe_at shape rows) * length (universe_at shape columns))
    grid_cells i below = cell_at shape f (rows ∷ columns ∷ []) has n i fits.few_locations first (subst (λ m. i < m) (sym (two_each (universe_at shape rows) (universe_at shape columns))) below)

  pub grid_read : (rows columns : ℕ) → HasDomain shape f (rows ∷ columns ∷ []) → (us ws : List Value) → slice_get shape.universes rows ≡ Some us → slice_get shape.universes columns ≡ Some ws
      → (n : ℕ) → n ≡ first_of shape f → (span span' : CodeRange) → IsCodeRange span us → IsCodeRange span' ws → (s s' : Box Code Global) (t t' : Code) → s.value ≡ t → s'.value ≡ t'
      → IsRead shape f (tree.code_then (code_of t) (tree.code_then (code_of t') tree.no_codes)) (code_of (code.Grid (record { first = n; rows = span; columns = span' }) s s'))
  unfolding reading
  grid_read rows columns has us ws is is' n first span span' spans spans' s s' t t' same same' =
      let there = get_or_from_slice_get shape.universes rows us [] is in
      let there' = get_or_from_slice_get shape.universes columns ws [] is' in
      let at : GridPlace = record { first = n; rows = span; columns = span' } in
      let many : length (universe_at shape rows) ≡ span.count = ap length there ∙ sym spans.count in
      let many' : length (universe_at shape columns) ≡ span'.count = ap length there' ∙ sym spans'.count in
      let form = grid_form (code.Grid at s s') at s s' refl ∙ (λ i. tree.Grid n span.low span.count span'.low span'.count (code_of (same i)) (code_of (same' i))) in
      subst (IsRead shape f (tree.code_then (code_of t) (tree.code_then (code_of t') tree.no_codes))) (sym form) (record {
        sound = λ ts_sound. (subst (AreCells shape n) (λ i. many i * many' i) (grid_cells rows columns has n first), ts_sound.0, ts_sound.1.0);
        reads = λ rs A. (λ i. in_grid shape A n (sym many' i) (placed rows us there span spans (reading shape (code_of t) rs A) i) (placed columns ws there' span' spans' (reading shape (code_of t') rs A) i))
            ∙ in_grid_is rows columns has n first A (reading shape (code_of t) rs A) (reading shape (code_of t') rs A)
            (position_in shape rows (reading shape (code_of t) rs A)) (position_in shape columns (reading shape (code_of t') rs A)) refl refl;
      })

  -- ---- with more than a domain has

  in_none : (domain : Domain) (vs : List Value) → length domain < length vs → is_in domain vs ≡ false
  in_none [] [] more = absurd (omega (arith, more))
  in_none [] (v ∷ vs) more = refl
  in_none (us ∷ domain) [] more = refl
  in_none (us ∷ domain) (v ∷ vs) more = ap (λ b. list_any (is_same v) us && b) (in_none domain vs (omega (arith, more))) ∙ no_and (list_any (is_same v) us)
    where
      no_and : (b : Bool) → (b && false) ≡ false
      no_and true = refl
      no_and false = refl

  undef_there : (it : Option Function) (vs : List Value) (A : State) → slice_get shape.functions f ≡ it → 4 < length vs → Undef ≡ held (function_at shape f it) vs A
  undef_there None vs A at many = refl
  undef_there (Some it) vs A at many = by it.kind
    where
      few : length (domain_in shape.universes it.domain) < length vs
      few =
          let there = slice_get_within shape.functions f it at in
          let domain = subst (λ (g : Function). IsDomainOf shape.universes g.domain) (get_or_from_slice_get shape.functions f it it at) (fits.domains f it there) in
          omega (arith, domain.few, many, length-map it.domain (λ n. slice_index_or shape.universes n []))

      by : (k : FunctionKind) → Undef ≡ held (Some (held_as shape f it k)) vs A
      by Controlled = ap (λ b. read A (cond b (Proper f vs) (Stray f))) (sym (in_none (domain_in shape.universes it.domain) vs few))
      by Static = ap (λ b. cond b (table_value it.table vs) Undef) (sym (in_none (domain_in shape.universes it.domain) vs few))

  reads_many : (ts : List Code) (rs : List Reading) (A : State) → length (readings shape (codes_of (map code_of ts)) rs A) ≡ length ts
  unfolding readings
  reads_many [] rs A = refl
  reads_many (t ∷ ts) rs A = ap suc (reads_many ts rs A)

  pub many_read : (ts : List Code) (w : Value) → 4 < length ts → w ≡ Undef → IsRead shape f (codes_of (map code_of ts)) (code_of (code.Constant w))
  unfolding reading
  many_read ts w many undef = subst (IsRead shape f (codes_of (map code_of ts))) (sym (constant_form (code.Constant w) w refl)) (record {
    sound = λ sound. tt;
    reads = λ rs A. undef ∙ undef_there (slice_get shape.functions f) (readings shape (codes_of (map code_of ts)) rs A) A refl (omega (arith, many, reads_many ts rs A));
  })
