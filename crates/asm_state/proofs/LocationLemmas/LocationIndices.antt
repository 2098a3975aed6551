-- Free. Where the locations of a function are among all of them.
use Rattle.std.proofs.Common.{◌≡◌, ℕ, ◌+◌, ◌<◌, true, false, cond, List, [], ◌∷◌, map, length, get_or, sym, ap, subst, ◌∙◌, arith, Some}
use Rattle.std.specs.Prelude.{slice_get}
use Rattle.std.specs.List.{enumerate_from}
use Rattle.std.proofs.Math.Seq.{get_or-append_seam}
use Rattle.std.proofs.Math.ListN.{get_or-append}
use Rattle.std.proofs.lemmas.List.{length-map, get_or-map}
use Rattle.std.proofs.lemmas.List.Concat.{get_or-flat_map}
use Rattle.std.proofs.lemmas.List.FromFn.{length-enumerate_from, get_or-enumerate_from}
use Rattle.std.proofs.lemmas.List.Folds.{length-flat_map-take}
use Rattle.std.proofs.lemmas.Option.{get_or_from_slice_get, slice_get_within}
use Rattle.asm_state.specs.declared.function.Function.{Function}
use Rattle.asm_state.specs.declared.function.FunctionKind.TheVariants.{Controlled}
use Rattle.asm_state.specs.declared.value.Value.{Value}
use Rattle.asm_state.specs.code.FirstLocations.{first_of}
use Rattle.asm_state.specs.Location.{Location, Proper, Stray}
use Rattle.asm_state.specs.Signature.{Shape, IsSound, domain_in, domain_by, domain_of, locations_by, function_locations, count_of, location_at, number_at}
use Rattle.asm_state.specs.Tables.{Domain, argument_lists, is_in, location_in}
use Rattle.asm_state.proofs.LayoutsSoFar.{listed_in}
use Rattle.asm_state.proofs.LocationLemmas.NumberedLocations.{how_many, number_laws}

-- ---- the locations of one controlled function

locations_listed : (f : ℕ) (domain : Domain) (k : ℕ) (d : Location) → k < length (argument_lists domain) → get_or (locations_by Controlled f domain) k d ≡ Proper f (get_or (argument_lists domain) k [])
locations_listed f domain k d h =
    let inside : k < length (map (Proper f) (argument_lists domain)) = subst (λ n. k < n) (sym (length-map (argument_lists domain) (Proper f))) h in
    get_or-append (map (Proper f) (argument_lists domain)) (Stray f ∷ []) d k inside ∙ get_or-map (Proper f) (argument_lists domain) k [] d h

stray_listed : (f : ℕ) (domain : Domain) (d : Location) → get_or (locations_by Controlled f domain) (length (argument_lists domain)) d ≡ Stray f
stray_listed f domain d =
    ap (λ n. get_or (locations_by Controlled f domain) n d) (sym (length-map (argument_lists domain) (Proper f)))
    ∙ get_or-append_seam (map (Proper f) (argument_lists domain)) (Stray f) [] d

-- ---- among all

pub record Holds (shape : Shape) (f : ℕ) (function : Function) : Type 0 where
  pub at : slice_get shape.functions f ≡ Some function
  pub kind : function.kind ≡ Controlled

abbrev pub lists_of : Shape → Function → List (List Value)
lists_of shape function = argument_lists (domain_in shape.universes function.domain)

its_locations : (shape : Shape) (f : ℕ) (function : Function) → Holds shape f function
    → function_locations shape.universes (get_or (enumerate_from 0 shape.functions) f (0, function)) ≡ locations_by Controlled f (domain_in shape.universes function.domain)
its_locations shape f function holds =
    let inside : f < length shape.functions = slice_get_within shape.functions f function holds.at in
    let here : get_or (enumerate_from 0 shape.functions) f (0, function) ≡ (f, function) =
    get_or-enumerate_from 0 shape.functions f (0, function) inside
    ∙ (λ i. (zero_plus i, get_or_from_slice_get shape.functions f function function holds.at i)) in
    ap (function_locations shape.universes) here ∙ ap (λ k. locations_by k f (domain_in shape.universes function.domain)) holds.kind
  where
    zero_plus : 0 + f ≡ f
    zero_plus = omega arith

its_index : (shape : Shape) (f : ℕ) (function : Function) (j : ℕ) → Holds shape f function → j < length (lists_of shape function) + 1
    → (first_of shape f + j < count_of shape) × (location_at shape (first_of shape f + j) ≡ get_or (locations_by Controlled f (domain_in shape.universes function.domain)) j (Stray 0))
its_index shape f function j holds h =
    let its = its_locations shape f function holds in
    let many : length (function_locations shape.universes (get_or (enumerate_from 0 shape.functions) f (0, function))) ≡ length (lists_of shape function) + 1 = ap length its ∙ how_many f (domain_in shape.universes function.domain) in
    let inside : f < length (enumerate_from 0 shape.functions) = subst (λ n. f < n) (sym (length-enumerate_from 0 shape.functions)) (slice_get_within shape.functions f function holds.at) in
    let room = length-flat_map-take (function_locations shape.universes) (enumerate_from 0 shape.functions) f (0, function) inside in (
      omega (arith, room, many, h),
      get_or-flat_map (function_locations shape.universes) (enumerate_from 0 shape.functions) f j (0, function) (Stray 0) inside (subst (λ n. j < n) (sym many) h)
          ∙ ap (λ ls. get_or ls j (Stray 0)) its,
    )

pub proper_index : (shape : Shape) (f : ℕ) (function : Function) (k : ℕ) → Holds shape f function → k < length (lists_of shape function)
    → (first_of shape f + k < count_of shape) × (location_at shape (first_of shape f + k) ≡ Proper f (get_or (lists_of shape function) k []))
proper_index shape f function k holds h =
    let index = its_index shape f function k holds (omega (arith, h)) in
    (index.0, index.1 ∙ locations_listed f (domain_in shape.universes function.domain) k (Stray 0) h)

pub stray_index : (shape : Shape) (f : ℕ) (function : Function) → Holds shape f function
    → (first_of shape f + length (lists_of shape function) < count_of shape) × (location_at shape (first_of shape f + length (lists_of shape function)) ≡ Stray f)
stray_index shape f function holds =
    let index = its_index shape f function (length (lists_of shape function)) holds (omega arith) in
    (index.0, index.1 ∙ stray_listed f (domain_in shape.universes function.domain) (Stray 0))

-- ---- the number of a function's location

pub record IsNumberOf (shape : Shape) (f : ℕ) (arguments : List Value) (n : ℕ) : Type 0 where
  pub number : n ≡ number_at shape (location_in f (domain_of shape f) arguments)
  pub location : location_at shape n ≡ location_in f (domain_of shape f) arguments
  pub in_range : n < count_of shape

numbered : (shape : Shape) (f : ℕ) (arguments : List Value) (n : ℕ) → IsSound shape → n < count_of shape → location_at shape n ≡ location_in f (domain_of shape f) arguments → IsNumberOf shape f arguments n
numbered shape f arguments n sound below is = record {
  number = sym (number_laws.number shape n sound below) ∙ ap (number_at shape) is;
  location = is;
  in_range = below;
}

pub proper_number : (shape : Shape) (f : ℕ) (function : Function) (arguments : List Value) (k : ℕ) → IsSound shape → Holds shape f function
    → k < length (lists_of shape function) → get_or (lists_of shape function) k [] ≡ arguments → IsNumberOf shape f arguments (first_of shape f + k)
proper_number shape f function arguments k sound holds h is =
    let index = proper_index shape f function k holds h in
    let domain : Domain = domain_in shape.universes function.domain in
    let inside : is_in domain arguments ≡ true = subst (λ vs. is_in domain vs ≡ true) is (listed_in domain k h) in
    numbered shape f arguments (first_of shape f + k) sound index.0
    (index.1 ∙ ap (Proper f) is ∙ ap (λ b. cond b (Proper f arguments) (Stray f)) (sym inside) ∙ ap (λ o. location_in f (domain_by shape.universes o) arguments) (sym holds.at))

pub stray_number : (shape : Shape) (f : ℕ) (function : Function) (arguments : List Value) → IsSound shape → Holds shape f function
    → is_in (domain_in shape.universes function.domain) arguments ≡ false → IsNumberOf shape f arguments (first_of shape f + length (lists_of shape function))
stray_number shape f function arguments sound holds out =
    let index = stray_index shape f function holds in
    numbered shape f arguments (first_of shape f + length (lists_of shape function)) sound index.0
    (index.1 ∙ ap (λ b. cond b (Proper f arguments) (Stray f)) (sym out) ∙ ap (λ o. location_in f (domain_by shape.universes o) arguments) (sym holds.at))
