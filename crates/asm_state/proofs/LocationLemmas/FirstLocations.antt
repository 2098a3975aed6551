-- Free. The locations of a function by their numbers, and the positions of arguments.
use Rattle.std.proofs.Common.{◌≡◌, ℕ, ◌+◌, ◌*◌, ◌<◌, ◌≤◌, true, false, cond, ◌&&◌, List, [], ◌∷◌, length, get_or, Option, Some, None, unwrap_or, refl, sym, ap, subst, ◌∙◌, arith}
use Rattle.std.specs.Prelude.{slice_get}
use Rattle.std.specs.List.{list_any, position}
use Rattle.std.proofs.Math.Bool.{and-false}
use Rattle.std.proofs.lemmas.Option.{slice_get-get_or, get_or_from_slice_get, slice_get_within}
use Rattle.asm_state.specs.declared.function.FunctionKind.TheVariants.{Controlled}
use Rattle.asm_state.specs.declared.layout.Stretch.{Stretch}
use Rattle.asm_state.specs.declared.layout.Layout.{Layout}
use Rattle.asm_state.specs.declared.value.Value.{Value}
use Rattle.asm_state.specs.code.FirstLocations.{first_of, position_in_grid, argument_position}
use Rattle.asm_state.specs.code.FirstLocationLaws.{FirstLocationLaws}
use Rattle.asm_state.specs.code.Layout.{IsLayoutOf}
use Rattle.asm_state.specs.Location.{Proper, Stray}
use Rattle.asm_state.specs.Operation.{is_same}
use Rattle.asm_state.specs.Signature.{Shape, IsSound, HasKind, domain_by, domain_of, count_of, location_at, number_at}
use Rattle.asm_state.specs.Tables.{Domain, argument_lists, is_in, location_in}
use Rattle.asm_state.proofs.LayoutsSoFar.{listed_in}
use Rattle.asm_state.proofs.ListPositions.{length-rows, in_rows, row_at}
use Rattle.asm_state.proofs.LocationLemmas.LocationIndices.{Holds, lists_of, proper_index, stray_index}
use Rattle.asm_state.proofs.LocationLemmas.NumberedLocations.{number_laws}
use Rattle.asm_state.proofs.LocationLemmas.FunctionOfLocation.{extent_is}
use Rattle.asm_state.proofs.Positions.{position_found, position_missed}

-- ---- the positions of arguments

-- arguments with a position are the list there
found : (domain : Domain) (vs : List Value) (k : ℕ) → argument_position domain vs ≡ Some k → (k < length (argument_lists domain)) × (get_or (argument_lists domain) k [] ≡ vs)
found [] [] k e =
    let same : 0 ≡ k = ap (λ o. unwrap_or o 0) e in
    subst (λ n. (n < length (argument_lists [])) × (get_or (argument_lists []) n [] ≡ [])) same (omega arith, refl)
found [] (v ∷ vs) k e = absurd cc
found (us ∷ domain) [] k e = absurd cc
found (us ∷ domain) (v ∷ vs) k e = by_parts (position (is_same v) us) (argument_position domain vs) refl refl (found domain vs) e
  where
    by_parts : (o p : Option ℕ) → position (is_same v) us ≡ o → argument_position domain vs ≡ p
        → ((j : ℕ) → argument_position domain vs ≡ Some j → (j < length (argument_lists domain)) × (get_or (argument_lists domain) j [] ≡ vs))
        → position_in_grid o (length (argument_lists domain)) p ≡ Some k
        → (k < length (argument_lists (us ∷ domain))) × (get_or (argument_lists (us ∷ domain)) k [] ≡ v ∷ vs)
    by_parts None p at rest inner is = absurd cc
    by_parts (Some i) None at rest inner is = absurd cc
    by_parts (Some i) (Some j) at rest inner is =
        let first = position_found v us i at in
        let others = inner j rest in
        let same : i * length (argument_lists domain) + j ≡ k = ap (λ o. unwrap_or o 0) is in
        subst (λ n. (n < length (argument_lists (us ∷ domain))) × (get_or (argument_lists (us ∷ domain)) n [] ≡ v ∷ vs)) same (
          subst (λ n. i * length (argument_lists domain) + j < n) (sym (length-rows (argument_lists domain) us)) (in_rows i (length us) j (length (argument_lists domain)) first.0 others.0),
          row_at us domain i j first.0 others.0 ∙ (λ x. first.1 x ∷ others.1 x),
        )

-- others are outside the domain
missed : (domain : Domain) (vs : List Value) → argument_position domain vs ≡ None → is_in domain vs ≡ false
missed [] [] e = absurd cc
missed [] (v ∷ vs) e = refl
missed (us ∷ domain) [] e = refl
missed (us ∷ domain) (v ∷ vs) e = by_parts (position (is_same v) us) (argument_position domain vs) refl refl (missed domain vs) e
  where
    by_parts : (o p : Option ℕ) → position (is_same v) us ≡ o → argument_position domain vs ≡ p → (argument_position domain vs ≡ None → is_in domain vs ≡ false)
        → position_in_grid o (length (argument_lists domain)) p ≡ None → is_in (us ∷ domain) (v ∷ vs) ≡ false
    by_parts None p at rest inner is = ap (λ b. b && is_in domain vs) (position_missed v us at)
    by_parts (Some i) None at rest inner is = ap (λ b. list_any (is_same v) us && b) (inner rest) ∙ and-false (list_any (is_same v) us)
    by_parts (Some i) (Some j) at rest inner is = absurd cc

listed : (domain : Domain) (vs : List Value) (k : ℕ) → argument_position domain vs ≡ Some k → slice_get (argument_lists domain) k ≡ Some vs
listed domain vs k e =
    let it = found domain vs k e in
    slice_get-get_or (argument_lists domain) k [] it.0 ∙ ap Some it.1

inside : (f : ℕ) (domain : Domain) (vs : List Value) (k : ℕ) → argument_position domain vs ≡ Some k → location_in f domain vs ≡ Proper f vs
inside f domain vs k e =
    let it = found domain vs k e in
    let has : is_in domain vs ≡ true = subst (λ us. is_in domain us ≡ true) it.1 (listed_in domain k it.0) in
    ap (λ b. cond b (Proper f vs) (Stray f)) has

outside : (f : ℕ) (domain : Domain) (vs : List Value) → argument_position domain vs ≡ None → location_in f domain vs ≡ Stray f
outside f domain vs e = ap (λ b. cond b (Proper f vs) (Stray f)) (missed domain vs e)

-- of one argument, and of two

one_column : (o : Option ℕ) → position_in_grid o 1 (Some 0) ≡ o
one_column None = refl
one_column (Some i) = let same : i * 1 + 0 ≡ i = omega arith in ap Some same

of_one : (us : List Value) (v : Value) → argument_position (us ∷ []) (v ∷ []) ≡ position (is_same v) us
of_one us v = one_column (position (is_same v) us)

of_two : (us ws : List Value) (v w : Value) → argument_position (us ∷ ws ∷ []) (v ∷ w ∷ []) ≡ position_in_grid (position (is_same v) us) (length ws) (position (is_same w) ws)
of_two us ws v w =
    let many : length (argument_lists (ws ∷ [])) ≡ length ws = length-rows ([] ∷ []) ws ∙ omega arith in
    λ i. position_in_grid (position (is_same v) us) (many i) (of_one ws w i)

-- ---- the locations of a function

module _ (shape : Shape) (f : ℕ) (has : HasKind Controlled shape f) where
  holds : Holds shape f has.0
  holds = record { at = has.1; kind = has.2 }

  lists_are : lists_of shape has.0 ≡ argument_lists (domain_of shape f)
  lists_are = sym (ap (λ o. argument_lists (domain_by shape.universes o)) has.1)

  proper : (k : ℕ) (vs : List Value) → slice_get (argument_lists (domain_of shape f)) k ≡ Some vs → location_at shape (first_of shape f + k) ≡ Proper f vs
  proper k vs at =
      let here : slice_get (lists_of shape has.0) k ≡ Some vs = subst (λ ls. slice_get ls k ≡ Some vs) (sym lists_are) at in
      (proper_index shape f has.0 k holds (slice_get_within (lists_of shape has.0) k vs here)).1 ∙ ap (Proper f) (get_or_from_slice_get (lists_of shape has.0) k vs [] here)

  pub stray : location_at shape (first_of shape f + length (argument_lists (domain_of shape f))) ≡ Stray f
  stray = subst (λ ls. location_at shape (first_of shape f + length ls) ≡ Stray f) lists_are (stray_index shape f has.0 holds).1

  pub reached : (k : ℕ) → k ≤ length (argument_lists (domain_of shape f)) → first_of shape f + k < count_of shape
  reached k low = omega (arith, (stray_index shape f has.0 holds).0, ap length lists_are, low)

  proper_number : IsSound shape → (k : ℕ) (vs : List Value) → slice_get (argument_lists (domain_of shape f)) k ≡ Some vs → number_at shape (Proper f vs) ≡ first_of shape f + k
  proper_number sound k vs at =
      let low = slice_get_within (argument_lists (domain_of shape f)) k vs at in
      sym (ap (number_at shape) (proper k vs at)) ∙ number_laws.number shape (first_of shape f + k) sound (reached k (omega (arith, low)))

  pub stray_number : IsSound shape → number_at shape (Stray f) ≡ first_of shape f + length (argument_lists (domain_of shape f))
  stray_number sound =
      sym (ap (number_at shape) stray) ∙ number_laws.number shape (first_of shape f + length (argument_lists (domain_of shape f))) sound (reached (length (argument_lists (domain_of shape f))) (omega arith))

  -- what the layout has of the function
  module _ (layout : Layout) (laid_out : IsLayoutOf shape layout) (extent : Stretch) (of : extent ≡ get_or layout.extents.items f extent) where
    pub first_here : extent.start ≡ first_of shape f
    first_here = (extent_is shape layout laid_out f has.0 extent holds of).0

    pub last_here : extent.start + extent.lists ≡ first_of shape f + length (argument_lists (domain_of shape f))
    last_here =
        let sizes = extent_is shape layout laid_out f has.0 extent holds of in
        omega (arith, sizes.0, sizes.1, ap length lists_are)

pub first_location_laws : FirstLocationLaws
first_location_laws = record {
  list = listed;
  inside = inside;
  outside = outside;
  of_one = of_one;
  of_two = of_two;
  proper = λ shape f k vs has at. proper shape f has k vs at;
  stray = stray;
  in_range = λ shape f k has low. reached shape f has k low;
  number = λ shape f k vs sound has at. proper_number shape f has sound k vs at;
  stray_number = λ shape f sound has. stray_number shape f has sound;
}

-- the number of the stray location, by the layout
pub record IsStrayNumber (shape : Shape) (f n : ℕ) : Type 0 where
  pub number : n ≡ number_at shape (Stray f)
  pub location : location_at shape n ≡ Stray f
  pub in_range : n < count_of shape

pub stray_at : (shape : Shape) (f : ℕ) (has : HasKind Controlled shape f) (layout : Layout) → IsLayoutOf shape layout → (extent : Stretch) → extent ≡ get_or layout.extents.items f extent
    → IsStrayNumber shape f (extent.start + extent.lists)
stray_at shape f has layout laid_out extent of =
    let last : extent.start + extent.lists ≡ first_of shape f + length (argument_lists (domain_of shape f)) = last_here shape f has layout laid_out extent of in
    subst (IsStrayNumber shape f) (sym last) (record {
      number = sym (stray_number shape f has laid_out.sound);
      location = stray shape f has;
      in_range = reached shape f has (length (argument_lists (domain_of shape f))) (omega arith);
    })
