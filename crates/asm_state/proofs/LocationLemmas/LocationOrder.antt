-- Free. The locations of a signature rise.
use Rattle.std.proofs.Common.{◌≡◌, ℕ, ◌<◌, List, [], ◌∷◌, map, length, get_or, All, AllPairs, Contains, inl, inr, refl, sym, ap, subst, ◌∙◌, arith}
use Rattle.std.specs.Cmp.{nat_cmp_is}
use Rattle.std.specs.Cmp.Lexicographic.{slice_cmp}
use Rattle.std.specs.List.{enumerate_from}
use Rattle.std.specs.Ordering.{nat_cmp, ordering_then}
use Rattle.std.specs.declared.cmp.Ordering.TheVariants.{Less, Equal}
use Rattle.std.proofs.lemmas.Bool.{cases_lt}
use Rattle.std.proofs.lemmas.List.{get_or_past}
use Rattle.std.proofs.lemmas.List.Elements.{All-get_or, All-map, Contains-append_cases}
use Rattle.std.proofs.lemmas.List.FromFn.{length-enumerate_from, get_or-enumerate_from}
use Rattle.asm_state.specs.declared.function.Function.{Function}
use Rattle.asm_state.specs.declared.function.FunctionKind.{FunctionKind}
use Rattle.asm_state.specs.declared.function.FunctionKind.TheVariants.{Controlled, Static}
use Rattle.asm_state.specs.declared.value.Value.{Value}
use Rattle.asm_state.specs.Value.{value_cmp}
use Rattle.asm_state.specs.Location.{Location, Proper, Stray, function_of, stray_of, arguments_of, location_cmp}
use Rattle.asm_state.specs.Universe.{IsUniverse}
use Rattle.asm_state.specs.Tables.{Domain, argument_lists}
use Rattle.asm_state.specs.Signature.{Shape, IsSound, domain_in, locations_by, function_locations, locations}
use Rattle.asm_state.proofs.Lists.{Contains-none, Contains-cons_cases, Contains-from_map, AllPairs-none, AllPairs-single, AllPairs-append, AllPairs-map, AllPairs-flat_map}
use Rattle.asm_state.proofs.ArgumentLists.{ValuesRise, ListsRise, lists_apart}

abbrev pub LocationsRise : Location → Location → Type 0
LocationsRise l m = location_cmp l m ≡ Less

-- a number past the universes names an empty one
universe_named : (universes : List (List Value)) → All IsUniverse universes → (n : ℕ) → IsUniverse (get_or universes n [])
universe_named universes sound n =
    elim (cases_lt n (length universes)) [
      | inl below ↦ All-get_or IsUniverse universes n [] below sound
      | inr past ↦ subst IsUniverse (sym (get_or_past universes n [] past)) (AllPairs-none ValuesRise)
    ]

pub domain_sound : (universes : List (List Value)) → All IsUniverse universes → (numbers : List ℕ) → All IsUniverse (domain_in universes numbers)
domain_sound universes sound numbers = All-map IsUniverse (λ n. get_or universes n []) numbers (λ k d below. universe_named universes sound (get_or numbers k d))

less_by_function : (l m : Location) → function_of l < function_of m → LocationsRise l m
less_by_function l m h =
    ap (λ o. ordering_then o (ordering_then (nat_cmp (stray_of l) (stray_of m)) (slice_cmp value_cmp (arguments_of l) (arguments_of m)))) (sym (nat_cmp_is (function_of l) (function_of m) Less h))

less_by_arguments : (f : ℕ) (us vs : List Value) → ListsRise us vs → LocationsRise (Proper f us) (Proper f vs)
less_by_arguments f us vs h = ap (λ o. ordering_then o (slice_cmp value_cmp us vs)) (sym (nat_cmp_is f f Equal refl)) ∙ h

stray_is_last : (f : ℕ) (us : List Value) → LocationsRise (Proper f us) (Stray f)
stray_is_last f us = ap (λ o. ordering_then o Less) (sym (nat_cmp_is f f Equal refl))

-- the proper locations of a function, and then the stray one
one_function_rises : (kind : FunctionKind) (f : ℕ) (domain : Domain) → All IsUniverse domain → AllPairs LocationsRise (locations_by kind f domain)
one_function_rises Controlled f domain sound =
    AllPairs-append LocationsRise (map (Proper f) (argument_lists domain)) (Stray f ∷ [])
    (AllPairs-map ListsRise LocationsRise (Proper f) (less_by_arguments f) (argument_lists domain) (lists_apart domain sound))
    (AllPairs-single LocationsRise (Stray f))
    before
  where
    before : (l m : Location) → Contains (map (Proper f) (argument_lists domain)) l → Contains (Stray f ∷ []) m → LocationsRise l m
    before l m h k =
        let found = Contains-from_map (Proper f) (argument_lists domain) l h in
        elim (Contains-cons_cases (Stray f) [] m k) [
          | inl is ↦ subst (λ l. LocationsRise l m) found.2 (subst (λ m. LocationsRise (Proper f found.0) m) is (stray_is_last f found.0))
          | inr none ↦ absurd (Contains-none m none)
        ]
one_function_rises Static f domain sound = AllPairs-none LocationsRise

-- the locations of a function are of this function
of_function : (kind : FunctionKind) (f : ℕ) (domain : Domain) (l : Location) → Contains (locations_by kind f domain) l → function_of l ≡ f
of_function Controlled f domain l h =
    elim (Contains-append_cases (map (Proper f) (argument_lists domain)) (Stray f ∷ []) l h) [
      | inl proper ↦ let found = Contains-from_map (Proper f) (argument_lists domain) l proper in ap function_of (sym found.2)
      | inr last ↦ elim (Contains-cons_cases (Stray f) [] l last) [
        | inl is ↦ ap function_of (sym is)
        | inr none ↦ absurd (Contains-none l none)
      ]
    ]
of_function Static f domain l h = absurd (Contains-none l h)

abbrev NumbersRise : ℕ × Function → ℕ × Function → Type 0
NumbersRise x y = x.0 < y.0

numbers_rise : (functions : List Function) (first : ℕ) → AllPairs NumbersRise (enumerate_from first functions)
numbers_rise functions first i j d below inside =
    let long = length-enumerate_from first functions in
    let a = ap (λ (x : ℕ × Function). x.0) (get_or-enumerate_from first functions i d (omega arith)) in
    let b = ap (λ (x : ℕ × Function). x.0) (get_or-enumerate_from first functions j d (omega arith)) in
    omega arith

functions_rise : (universes : List (List Value)) (x y : ℕ × Function) (l m : Location) → NumbersRise x y → Contains (function_locations universes x) l → Contains (function_locations universes y) m → LocationsRise l m
functions_rise universes x y l m h at_first at_second =
    let a = of_function x.1.kind x.0 (domain_in universes x.1.domain) l at_first in
    let b = of_function y.1.kind y.0 (domain_in universes y.1.domain) m at_second in
    less_by_function l m (omega arith)

pub locations_rise : (shape : Shape) → IsSound shape → AllPairs LocationsRise (locations shape)
locations_rise shape sound =
    AllPairs-flat_map NumbersRise LocationsRise (function_locations shape.universes)
    (λ x. one_function_rises x.1.kind x.0 (domain_in shape.universes x.1.domain) (domain_sound shape.universes sound x.1.domain))
    (functions_rise shape.universes)
    (enumerate_from 0 shape.functions) (numbers_rise shape.functions 0)
