-- Free. The locations of a signature and their numbers.
use Rattle.std.proofs.Common.{◌≡◌, ℕ, zero, suc, ◌+◌, ◌<◌, false, List, [], ◌∷◌, map, length, slice_get, Some, Contains, IsTrue, inl, inr, refl, sym, ap, subst, ◌∙◌, arith}
use Rattle.std.specs.List.{enumerate_from}
use Rattle.std.specs.Ordering.{is_eq, ordering_reverse}
use Rattle.std.specs.declared.cmp.Ordering.TheVariants.{Less}
use Rattle.std.proofs.lemmas.Bool.{cases_lt, false≢true}
use Rattle.std.proofs.lemmas.List.{length-map, length-append}
use Rattle.std.proofs.lemmas.List.Elements.{Contains-get_or, Contains-append_left, Contains-append_right, Contains-append_cases}
use Rattle.std.proofs.lemmas.List.Sums.{position_or_len_is, passes_at_first, fails_before_first}
use Rattle.asm_state.specs.declared.function.Function.{Function}
use Rattle.asm_state.specs.declared.function.FunctionKind.{FunctionKind}
use Rattle.asm_state.specs.declared.function.FunctionKind.TheVariants.{Controlled, Static}
use Rattle.asm_state.specs.declared.value.Value.{Value}
use Rattle.asm_state.specs.Location.{Location, Proper, Stray, location_cmp, location_cmp-total}
use Rattle.asm_state.specs.Tables.{Domain, argument_lists, is_in}
use Rattle.asm_state.specs.Signature.{Shape, IsSound, domain_in, domain_by, locations_by, function_locations, locations, count_of, location_at, is_location, number_at, IsLocationOf}
use Rattle.asm_state.specs.code.SignatureLaws.{IsHeld, NumberLaws}
use Rattle.asm_state.proofs.UpdateLemmas.Updates.{same_location, location_itself}
use Rattle.asm_state.proofs.Lists.{Contains-none, Contains-first, Contains-later, Contains-cons_cases, Contains-map, Contains-from_map, Contains-flat_map, Contains-from_flat_map}
use Rattle.asm_state.proofs.ListsInDomain.{contains_in, in_contains}
use Rattle.asm_state.proofs.LocationLemmas.LocationOrder.{LocationsRise, locations_rise}

-- a function with its number, and the function at that index
numbered : (functions : List Function) (first : ℕ) (x : ℕ × Function) → Contains (enumerate_from first functions) x → (k : ℕ) × (x.0 ≡ first + k) × (slice_get functions k ≡ Some x.1)
numbered [] first x h = absurd (Contains-none x h)
numbered (function ∷ functions) first x h =
    elim (Contains-cons_cases {X = ℕ × Function} (first, function) (enumerate_from (first + 1) functions) x h) [
      | inl is ↦ let same = ap (λ (x : ℕ × Function). x.0) is in (0, omega arith, ap (λ (x : ℕ × Function). Some x.1) is)
      | inr later ↦ let found = numbered functions (first + 1) x later in let at = found.1 in (suc found.0, omega arith, found.2)
    ]

-- the same from 0 on
numbered_there : (functions : List Function) (x : ℕ × Function) → Contains (enumerate_from 0 functions) x → slice_get functions x.0 ≡ Some x.1
numbered_there functions x h =
    let found = numbered functions 0 x h in
    let at = found.1 in
    let same : found.0 ≡ x.0 = omega arith in
    subst (λ n. slice_get functions n ≡ Some x.1) same found.2

contains_numbered : (functions : List Function) (first k n : ℕ) (function : Function) → n ≡ first + k → slice_get functions k ≡ Some function → Contains (enumerate_from first functions) (n, function)
contains_numbered [] first k n function at there = cc
contains_numbered (g ∷ functions) first zero n function at there =
    let same : first ≡ n = omega arith in
    let here : g ≡ function = cc in
    subst (λ n. Contains (enumerate_from first (g ∷ functions)) (n, function)) same
    (subst (λ function. Contains (enumerate_from first (g ∷ functions)) (first, function)) here (Contains-first {X = ℕ × Function} (first, g) (enumerate_from (first + 1) functions)))
contains_numbered (g ∷ functions) first (suc k) n function at there =
    Contains-later {X = ℕ × Function} (first, g) (enumerate_from (first + 1) functions) (n, function) (contains_numbered functions (first + 1) k n function (omega arith) there)

-- a location is among those of the function with this number
abbrev IsOf : FunctionKind → ℕ → Domain → Location → Type 0
IsOf kind f domain (Proper g vs) = (kind ≡ Controlled) × (g ≡ f) × IsTrue (is_in domain vs)
IsOf kind f domain (Stray g) = (kind ≡ Controlled) × (g ≡ f)

is_of : (kind : FunctionKind) (f : ℕ) (domain : Domain) (l : Location) → Contains (locations_by kind f domain) l → IsOf kind f domain l
is_of Controlled f domain l h =
    elim (Contains-append_cases (map (Proper f) (argument_lists domain)) (Stray f ∷ []) l h) [
      | inl proper ↦ let found = Contains-from_map (Proper f) (argument_lists domain) l proper in
          subst (IsOf Controlled f domain) found.2 (refl, refl, in_contains domain found.0 found.1)
      | inr last ↦ elim (Contains-cons_cases (Stray f) [] l last) [
        | inl is ↦ subst (IsOf Controlled f domain) is (refl, refl)
        | inr none ↦ absurd (Contains-none l none)
      ]
    ]
is_of Static f domain l h = absurd (Contains-none l h)

contains_proper : (kind : FunctionKind) (f : ℕ) (domain : Domain) (vs : List Value) → kind ≡ Controlled → IsTrue (is_in domain vs) → Contains (locations_by kind f domain) (Proper f vs)
contains_proper kind f domain vs controlled h =
    subst (λ kind. Contains (locations_by kind f domain) (Proper f vs)) (sym controlled)
    (Contains-append_left (map (Proper f) (argument_lists domain)) (Stray f ∷ []) (Proper f vs) (Contains-map (Proper f) (argument_lists domain) vs (contains_in domain vs h)))

contains_stray : (kind : FunctionKind) (f : ℕ) (domain : Domain) → kind ≡ Controlled → Contains (locations_by kind f domain) (Stray f)
contains_stray kind f domain controlled =
    subst (λ kind. Contains (locations_by kind f domain) (Stray f)) (sym controlled)
    (Contains-append_right (map (Proper f) (argument_lists domain)) (Stray f ∷ []) (Stray f) (Contains-first (Stray f) []))

held_from : (shape : Shape) (x : ℕ × Function) (l : Location) → slice_get shape.functions x.0 ≡ Some x.1 → IsOf x.1.kind x.0 (domain_in shape.universes x.1.domain) l → IsHeld shape l
held_from shape x (Proper g vs) there h =
    let here = subst (λ n. slice_get shape.functions n ≡ Some x.1) (sym h.1) there in
    ((x.1, here, h.0), subst (λ found. IsTrue (is_in (domain_by shape.universes found) vs)) (sym here) h.2)
held_from shape x (Stray g) there h = (x.1, subst (λ n. slice_get shape.functions n ≡ Some x.1) (sym h.1) there, h.0)

is_held : (shape : Shape) (l : Location) → IsLocationOf shape l → IsHeld shape l
is_held shape l h =
    let found = Contains-from_flat_map (function_locations shape.universes) (enumerate_from 0 shape.functions) l h in
    let x = found.0 in
    held_from shape x l (numbered_there shape.functions x found.1) (is_of x.1.kind x.0 (domain_in shape.universes x.1.domain) l found.2)

-- what a function of the signature has, the signature has
has_piece : (shape : Shape) (f : ℕ) (function : Function) (l : Location) → slice_get shape.functions f ≡ Some function → Contains (locations_by function.kind f (domain_in shape.universes function.domain)) l → IsLocationOf shape l
has_piece shape f function l there h =
    Contains-flat_map (function_locations shape.universes) (enumerate_from 0 shape.functions) (f, function) l (contains_numbered shape.functions 0 f f function (omega arith) there) h

pub has_held : (shape : Shape) (l : Location) → IsHeld shape l → IsLocationOf shape l
has_held shape (Proper f vs) h =
    let function = h.0.0 in
    let inside = subst (λ found. IsTrue (is_in (domain_by shape.universes found) vs)) h.0.1 h.1 in
    has_piece shape f function (Proper f vs) h.0.1 (contains_proper function.kind f (domain_in shape.universes function.domain) vs h.0.2 inside)
has_held shape (Stray f) h =
    let function = h.0 in
    has_piece shape f function (Stray f) h.1 (contains_stray function.kind f (domain_in shape.universes function.domain) h.2)

rise : (shape : Shape) (n m : ℕ) → IsSound shape → n < m → m < count_of shape → location_cmp (location_at shape n) (location_at shape m) ≡ Less
rise shape n m sound below inside = locations_rise shape sound n m (Stray 0) below inside

pub is_location_at : (shape : Shape) (n : ℕ) → n < count_of shape → IsLocationOf shape (location_at shape n)
is_location_at shape n inside = Contains-get_or (locations shape) n (Stray 0) inside

-- of two that rise the latter isn't the former
risen_apart : (l m : Location) → LocationsRise m l → is_location l m ≡ false
risen_apart l m h = ap is_eq (location_cmp-total.antisymm l m ∙ ap ordering_reverse h)

pub number : (shape : Shape) (n : ℕ) → IsSound shape → n < count_of shape → number_at shape (location_at shape n) ≡ n
number shape n sound inside =
    position_or_len_is (is_location (location_at shape n)) (locations shape) n (Stray 0) (omega arith)
    (λ k below. risen_apart (location_at shape n) (location_at shape k) (rise shape k n sound below inside))
    (λ _. location_itself (location_at shape n))

pub in_range : (shape : Shape) (l : Location) → IsLocationOf shape l → number_at shape l < count_of shape
in_range shape l h =
    let inside = h.1 in
    elim (cases_lt h.0 (number_at shape l)) [
      | inl before ↦ absurd (false≢true (sym (fails_before_first (is_location l) (locations shape) h.0 l before) ∙ ap (is_location l) h.2 ∙ location_itself l))
      | inr past ↦ omega arith
    ]

-- a number below the count is that of the location there
pub location_below : (shape : Shape) (l : Location) → number_at shape l < count_of shape → location_at shape (number_at shape l) ≡ l
location_below shape l inside = sym (same_location l (location_at shape (number_at shape l)) (passes_at_first (is_location l) (locations shape) (Stray 0) inside))

-- how many locations a controlled function has
pub how_many : (f : ℕ) (domain : Domain) → length (locations_by Controlled f domain) ≡ length (argument_lists domain) + 1
how_many f domain = length-append (map (Proper f) (argument_lists domain)) (Stray f ∷ []) ∙ ap (λ n. n + 1) (length-map (argument_lists domain) (Proper f))

pub number_laws : NumberLaws
number_laws = record {
  of_function = how_many;
  is_held = is_held;
  has_held = has_held;
  rise = rise;
  is_location = is_location_at;
  number = number;
  in_range = in_range;
  location = λ shape l h. location_below shape l (in_range shape l h);
  below = location_below;
}
