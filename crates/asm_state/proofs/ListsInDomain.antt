-- Free. The argument lists of a domain are those that are in it.
use Rattle.std.proofs.Common.{◌≡◌, true, false, ◌||◌, List, [], ◌∷◌, map, Contains, IsTrue, inl, inr, refl, sym, ap, subst}
use Rattle.std.specs.List.{list_any}
use Rattle.std.proofs.lemmas.Bool.{false≢true, or_right, and_parts, and_from}
use Rattle.asm_state.specs.declared.value.Value.{Value}
use Rattle.asm_state.specs.Operation.{is_same}
use Rattle.asm_state.specs.Tables.{Domain, argument_lists, is_in}
use Rattle.asm_state.proofs.Lists.{Contains-none, Contains-first, Contains-later, Contains-cons_cases, Contains-map, Contains-from_map, Contains-flat_map, Contains-from_flat_map}
use Rattle.asm_state.proofs.UpdateLemmas.Updates.{same_value, value_itself}

-- a universe has a value if the test says so
pub contains_same : (v : Value) (us : List Value) → list_any (is_same v) us ≡ true → Contains us v
contains_same v [] h = absurd (false≢true h)
contains_same v (u ∷ us) h =
    elim (is_same v u) as (λ b. is_same v u ≡ b → (b || list_any (is_same v) us) ≡ true → Contains (u ∷ us) v) [
      | true ↦ λ e _. subst (λ w. Contains (u ∷ us) w) (sym (same_value v u e)) (Contains-first u us)
      | false ↦ λ _ later. Contains-later u us v (contains_same v us later)
    ] refl h

pub same_contained : (v : Value) (us : List Value) → Contains us v → list_any (is_same v) us ≡ true
same_contained v [] h = absurd (Contains-none v h)
same_contained v (u ∷ us) h =
    elim (Contains-cons_cases u us v h) [
      | inl is ↦ ap (λ b. b || list_any (is_same v) us) (subst (λ w. is_same v w ≡ true) (sym is) (value_itself v))
      | inr later ↦ or_right (is_same v u) (list_any (is_same v) us) (same_contained v us later)
    ]

-- with a value of the first universe before each list of the rest
abbrev pub lists_after : Domain → Value → List (List Value)
lists_after domain v = map (λ rest. v ∷ rest) (argument_lists domain)

pub contains_in : (domain : Domain) (vs : List Value) → IsTrue (is_in domain vs) → Contains (argument_lists domain) vs
contains_in [] [] h = Contains-first [] []
contains_in [] (v ∷ vs) h = absurd (false≢true h)
contains_in (us ∷ domain) [] h = absurd (false≢true h)
contains_in (us ∷ domain) (v ∷ vs) h =
    let both = and_parts (list_any (is_same v) us) (is_in domain vs) h in
    Contains-flat_map (lists_after domain) us v (v ∷ vs) (contains_same v us both.0) (Contains-map (λ rest. v ∷ rest) (argument_lists domain) vs (contains_in domain vs both.1))

pub in_contains : (domain : Domain) (vs : List Value) → Contains (argument_lists domain) vs → IsTrue (is_in domain vs)
in_contains [] vs h =
    elim (Contains-cons_cases [] [] vs h) [
      | inl is ↦ subst (λ vs. is_in [] vs ≡ true) is refl
      | inr none ↦ absurd (Contains-none vs none)
    ]
in_contains (us ∷ domain) vs h =
    let piece = Contains-from_flat_map (lists_after domain) us vs h in
    let rest = Contains-from_map (λ rest. piece.0 ∷ rest) (argument_lists domain) vs piece.2 in
    subst (λ vs. is_in (us ∷ domain) vs ≡ true) rest.2 (and_from _ _ (same_contained piece.0 us piece.1) (in_contains domain rest.0 rest.1))
