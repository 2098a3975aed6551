-- Free. The function of each location, and the location by what the layout has of it.
use Rattle.std.proofs.Common.{◌≡◌, ◌≢◌, ℕ, suc, ◌+◌, ◌-◌, ◌<◌, ◌≤◌, true, false, cond, nat_lt, nat_eq, List, [], ◌∷◌, ◌++◌, take, length, get_or, refl, sym, ap, subst, ◌∙◌, arith, Option, Some, None, unwrap_or}
use Rattle.std.specs.Prelude.{slice_get, IfSome, IfNone, IsTrue}
use Rattle.std.specs.List.{flat_map, enumerate_from}
use Rattle.std.proofs.lemmas.Bool.Decides.{nat_tests}
use Rattle.std.proofs.lemmas.List.{length-append, get_or-map}
use Rattle.std.proofs.lemmas.List.FromFn.{length-enumerate_from, get_or-enumerate_from}
use Rattle.std.proofs.lemmas.Option.{slice_get-get_or, get_or_from_slice_get, slice_get_within}
use Rattle.asm_state.specs.declared.function.Function.{Function}
use Rattle.asm_state.specs.declared.function.FunctionKind.{FunctionKind}
use Rattle.asm_state.specs.declared.function.FunctionKind.TheVariants.{Controlled, Static}
use Rattle.asm_state.specs.declared.layout.Stretch.{Stretch}
use Rattle.asm_state.specs.declared.layout.Layout.{Layout}
use Rattle.asm_state.specs.declared.function.Table.TheVariants.{Same}
use Rattle.asm_state.specs.declared.value.Value.{Value}
use Rattle.asm_state.specs.declared.value.Value.TheVariants.{Undef}
use Rattle.asm_state.specs.code.FirstLocations.{first_of}
use Rattle.asm_state.specs.code.Layout.{IsLayoutOf, IsStretchOf, start_by}
use Rattle.asm_state.specs.Location.{Proper, Stray, function_of}
use Rattle.asm_state.specs.Signature.{Shape, HasKind, domain_in, domain_by, domain_of, locations_by, function_locations, locations, count_of, location_at}
use Rattle.asm_state.specs.Tables.{is_in, location_in}
use Rattle.asm_state.specs.Updates.{is_proper}
use Rattle.asm_state.proofs.LayoutsSoFar.{listed_in}
use Rattle.asm_state.proofs.LocationLemmas.NumberedLocations.{how_many}
use Rattle.asm_state.proofs.LocationLemmas.LocationIndices.{Holds, lists_of, proper_index, stray_index, IsNumberOf, proper_number, stray_number}

-- an index in a list of pieces is one in some piece
record Piece {X A : Type 0} (g : X → List A) (xs : List X) (n : ℕ) (e : X) : Type 0 where
  piece : ℕ
  position : ℕ
  known : piece < length xs
  inside : position < length (g (get_or xs piece e))
  is : n ≡ length (flat_map g (take piece xs)) + position

piece_of : {X A : Type 0} (g : X → List A) (xs : List X) (n : ℕ) (e : X) → n < length (flat_map g xs) → Piece g xs n e
piece_of g [] n e h = absurd (omega (arith, h))
piece_of g (x ∷ xs) n e h =
    elim (nat_lt n (length (g x))) as (λ b. nat_lt n (length (g x)) ≡ b → Piece g (x ∷ xs) n e) [
      | true ↦ λ t. record { piece = 0; position = n; known = omega arith; inside = grind (arith, nat_tests); is = omega arith }
      | false ↦ λ t.
          let total : length (g x ++ flat_map g xs) ≡ length (g x) + length (flat_map g xs) = length-append (g x) (flat_map g xs) in
          let past : length (g x) ≤ n = grind (arith, nat_tests) in
          let rest : Piece g xs (n - length (g x)) e = piece_of g xs (n - length (g x)) e (omega (arith, total, past, h)) in
          let before : length (g x ++ flat_map g (take rest.piece xs)) ≡ length (g x) + length (flat_map g (take rest.piece xs)) = length-append (g x) (flat_map g (take rest.piece xs)) in
          record {
            piece = suc rest.piece;
            position = rest.position;
            known = omega (arith, rest.known);
            inside = rest.inside;
            is = omega (arith, rest.is, past, before);
          }
    ] refl

-- ---- the function of a location

pub record Owned (shape : Shape) (n f : ℕ) : Type 0 where
  pub function : Function
  pub holds : Holds shape f function
  pub starts : first_of shape f ≤ n
  pub ends : n - first_of shape f < length (lists_of shape function) + 1

owned_piece : (shape : Shape) (n i j : ℕ) (function : Function) → slice_get shape.functions i ≡ Some function → (kind : FunctionKind) → function.kind ≡ kind
    → j < length (locations_by kind i (domain_in shape.universes function.domain)) → n ≡ first_of shape i + j → Owned shape n i
owned_piece shape n i j function at Static e h is = absurd (omega (arith, h))
owned_piece shape n i j function at Controlled e h is =
    let many : length (locations_by Controlled i (domain_in shape.universes function.domain)) ≡ length (lists_of shape function) + 1 = how_many i (domain_in shape.universes function.domain) in
    record { function = function; holds = record { at = at; kind = e }; starts = omega (arith, is); ends = omega (arith, is, many, h) }

abbrev pub at_piece : (shape : Shape) (n : ℕ) → Type 0
at_piece shape n = (f : ℕ) × Owned shape n f

owner_of : (shape : Shape) (n : ℕ) (d : Function) → n < count_of shape → at_piece shape n
owner_of shape n d h =
    let split : Piece (function_locations shape.universes) (enumerate_from 0 shape.functions) n (0, d) = piece_of (function_locations shape.universes) (enumerate_from 0 shape.functions) n (0, d) h in
    let known : split.piece < length shape.functions = subst (λ m. split.piece < m) (length-enumerate_from 0 shape.functions) split.known in
    let here : get_or (enumerate_from 0 shape.functions) split.piece (0, d) ≡ (split.piece, get_or shape.functions split.piece d) =
    get_or-enumerate_from 0 shape.functions split.piece (0, d) known ∙ (λ i. (zero_plus split.piece i, get_or shape.functions split.piece d)) in (
      split.piece,
      owned_piece shape n split.piece split.position (get_or shape.functions split.piece d) (slice_get-get_or shape.functions split.piece d known)
          (get_or shape.functions split.piece d).kind refl
          (subst (λ it. split.position < length (function_locations shape.universes it)) here split.inside)
          split.is,
    )
  where
    zero_plus : (f : ℕ) → 0 + f ≡ f
    zero_plus f = omega arith

-- what the location is, by its distance from the function's first one
pub record IsAt (shape : Shape) (n f start lists : ℕ) : Type 0 where
  pub function : Function
  pub holds : Holds shape f function
  pub begins : start ≤ n
  pub stray : n - start ≡ lists → location_at shape n ≡ Stray f
  pub inside : n - start ≢ lists → n - start < length (lists_of shape function)
  pub proper : n - start ≢ lists → location_at shape n ≡ Proper f (get_or (lists_of shape function) (n - start) [])

is_at : (shape : Shape) (n f start lists : ℕ) (owned : Owned shape n f) → start ≡ first_of shape f → lists ≡ length (lists_of shape owned.function) → IsAt shape n f start lists
is_at shape n f start lists owned is are = record {
  function = owned.function;
  holds = owned.holds;
  begins = begins;
  stray = λ last.
      let at : n ≡ first_of shape f + length (lists_of shape owned.function) = omega (arith, last, is, are, owned.starts) in
      ap (location_at shape) at ∙ (stray_index shape f owned.function owned.holds).1;
  inside = inside;
  proper = λ other.
      let at : n ≡ first_of shape f + (n - start) = omega (arith, is, owned.starts) in
      ap (location_at shape) at ∙ (proper_index shape f owned.function (n - start) owned.holds (inside other)).1;
}
  where
    begins : start ≤ n
    begins = omega (arith, is, owned.starts)

    inside : n - start ≢ lists → n - start < length (lists_of shape owned.function)
    inside other = omega (arith, owned.ends, is, are, other)

-- the function of the location is the one that it is found in
same_owner : (shape : Shape) (n f : ℕ) → Owned shape n f → function_of (location_at shape n) ≡ f
same_owner shape n f owned =
    elim (nat_eq (n - first_of shape f) (length (lists_of shape owned.function))) as (λ b. nat_eq (n - first_of shape f) (length (lists_of shape owned.function)) ≡ b → function_of (location_at shape n) ≡ f) [
      | true ↦ λ e. let last : n - first_of shape f ≡ length (lists_of shape owned.function) = grind (arith, nat_tests) in ap function_of (at.stray last)
      | false ↦ λ e. let other : n - first_of shape f ≢ length (lists_of shape owned.function) = grind (arith, nat_tests) in ap function_of (at.proper other)
    ] refl
  where
    at : IsAt shape n f (first_of shape f) (length (lists_of shape owned.function))
    at = is_at shape n f (first_of shape f) (length (lists_of shape owned.function)) owned refl refl

-- the function that a list has at a number is the one that it is known to have
pub same_function : (shape : Shape) (kind : FunctionKind) (f : ℕ) (function : Function) → HasKind kind shape f → function ≡ get_or shape.functions f function
    → (slice_get shape.functions f ≡ Some function) × (function.kind ≡ kind)
same_function shape kind f function has is =
    let same : has.0 ≡ function = sym (get_or_from_slice_get shape.functions f has.0 function has.1) ∙ sym is in
    subst (λ g. (slice_get shape.functions f ≡ Some g) × (g.kind ≡ kind)) same (has.1, has.2)

-- ---- what the layout has of a function

module _ (shape : Shape) (layout : Layout) (laid_out : IsLayoutOf shape layout) where
  pub owner_here : (n f : ℕ) → n < count_of shape → f ≡ get_or layout.owners.items n f → Owned shape n f
  owner_here n f h is =
      let none_such : Function = record { kind = Controlled; domain = []; table = Same Undef } in
      let found : at_piece shape n = owner_of shape n none_such h in
      let same : found.0 ≡ f = sym (same_owner shape n found.0 found.1) ∙ sym (get_or-map function_of (locations shape) n (Stray 0) f h) ∙ ap (λ fs. get_or fs n f) (sym laid_out.owners) ∙ sym is in
      subst (Owned shape n) same found.1

  pub known_extent : (f : ℕ) (function : Function) → Holds shape f function → f < length layout.extents.items
  known_extent f function holds = subst (λ n. f < n) (sym laid_out.beside) (slice_get_within shape.functions f function holds.at)

  pub any_extent : (f : ℕ) (function : Function) (extent : Stretch) → slice_get shape.functions f ≡ Some function → extent ≡ get_or layout.extents.items f extent → IsStretchOf shape f function extent
  any_extent f function extent at is =
      let known : f < length shape.functions = slice_get_within shape.functions f function at in
      subst (λ g. IsStretchOf shape f g extent) (get_or_from_slice_get shape.functions f function function at)
      (subst (IsStretchOf shape f (get_or shape.functions f function)) (sym is) (laid_out.extents f function extent known))

  pub extent_is : (f : ℕ) (function : Function) (extent : Stretch) → Holds shape f function → extent ≡ get_or layout.extents.items f extent
      → (extent.start ≡ first_of shape f) × (extent.lists ≡ length (lists_of shape function))
  extent_is f function extent holds is =
      let it : IsStretchOf shape f function extent = any_extent f function extent holds.at is in
      (it.start ∙ ap (λ k. start_by k shape f) holds.kind, it.lists)

  -- the location with a number, by the extent of its function
  pub index_here : (n f : ℕ) (extent : Stretch) → n < count_of shape → f ≡ get_or layout.owners.items n f → extent ≡ get_or layout.extents.items f extent → IsAt shape n f extent.start extent.lists
  index_here n f extent h is of =
      let owned : Owned shape n f = owner_here n f h is in
      let sizes : (extent.start ≡ first_of shape f) × (extent.lists ≡ length (lists_of shape owned.function)) = extent_is f owned.function extent owned.holds of in
      is_at shape n f extent.start extent.lists owned sizes.0 sizes.1

  -- the number of a location, by the position of its arguments
  pub number_here : (f : ℕ) (function : Function) (extent : Stretch) (arguments : List Value) (list : Option ℕ) → HasKind Controlled shape f
      → function ≡ get_or shape.functions f function → extent ≡ get_or layout.extents.items f extent
      → IfSome list (λ k. (k < length (lists_of shape function)) × (get_or (lists_of shape function) k [] ≡ arguments))
      → IfNone list (is_in (domain_in shape.universes function.domain) arguments ≡ false)
      → IsNumberOf shape f arguments (extent.start + unwrap_or list extent.lists)
  number_here f function extent arguments (Some k) has is of some nothing =
      let same = same_function shape Controlled f function has is in
      let holds : Holds shape f function = record { at = same.0; kind = same.1 } in
      subst (λ start. IsNumberOf shape f arguments (start + k)) (sym (extent_is f function extent holds of).0)
      (proper_number shape f function arguments k laid_out.sound holds some.0 some.1)
  number_here f function extent arguments None has is of some nothing =
      let same = same_function shape Controlled f function has is in
      let holds : Holds shape f function = record { at = same.0; kind = same.1 } in
      let sizes : (extent.start ≡ first_of shape f) × (extent.lists ≡ length (lists_of shape function)) = extent_is f function extent holds of in
      subst (λ start. IsNumberOf shape f arguments (start + extent.lists)) (sym sizes.0)
      (subst (λ lists. IsNumberOf shape f arguments (first_of shape f + lists)) (sym sizes.1)
      (stray_number shape f function arguments laid_out.sound holds nothing))

  -- the number of a location whose arguments are at a position
  pub number_at_list : (f : ℕ) (function : Function) (extent : Stretch) (arguments : List Value) (k : ℕ) → HasKind Controlled shape f
      → function ≡ get_or shape.functions f function → extent ≡ get_or layout.extents.items f extent
      → k < length (lists_of shape function) → get_or (lists_of shape function) k [] ≡ arguments → IsNumberOf shape f arguments (extent.start + k)
  number_at_list f function extent arguments k has is of below at =
      let same = same_function shape Controlled f function has is in
      let holds : Holds shape f function = record { at = same.0; kind = same.1 } in
      subst (λ start. IsNumberOf shape f arguments (start + k)) (sym (extent_is f function extent holds of).0)
      (proper_number shape f function arguments k laid_out.sound holds below at)

  -- arguments that are among those of the domain are those of a proper location
  pub proper_here : (f : ℕ) (function : Function) (arguments : List Value) (k : ℕ) → HasKind Controlled shape f → function ≡ get_or shape.functions f function
      → k < length (lists_of shape function) → get_or (lists_of shape function) k [] ≡ arguments → IsTrue (is_proper (location_in f (domain_of shape f) arguments))
  proper_here f function arguments k has is below at =
      let domain = domain_in shape.universes function.domain in
      let inside : is_in domain arguments ≡ true = subst (λ vs. is_in domain vs ≡ true) at (listed_in domain k below) in
      ap is_proper (ap (λ o. location_in f (domain_by shape.universes o) arguments) (same_function shape Controlled f function has is).0 ∙ ap (λ b. cond b (Proper f arguments) (Stray f)) inside)

  -- and others are those of the stray one
  pub stray_here : (f : ℕ) (function : Function) (arguments : List Value) → HasKind Controlled shape f → function ≡ get_or shape.functions f function
      → is_in (domain_in shape.universes function.domain) arguments ≡ false → location_in f (domain_of shape f) arguments ≡ Stray f
  stray_here f function arguments has is out =
      ap (λ o. location_in f (domain_by shape.universes o) arguments) (same_function shape Controlled f function has is).0 ∙ ap (λ b. cond b (Proper f arguments) (Stray f)) out
