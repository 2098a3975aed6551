-- Free. What positions stand for, in an environment: values, and locations.
--     stands_nothing, stands_value, stands_called      when nothing is bound;  with one more value;
--                                                      in the body of a rule that is called
use Rattle.std.proofs.Common.{◌≡◌, ℕ, zero, suc, Bool, true, false, cond, List, [], ◌∷◌, ◌++◌, map, Option, Some, None, refl, sym, ap, subst}
use Rattle.std.specs.Prelude.{option_map, is_some}
use Rattle.asm_state.specs.declared.value.Value.{Value}
use Rattle.asm_state.specs.Location.{Location, State}
use Rattle.asm_syntax.specs.Tree.{Name, Terms, no_terms, term_then, result}
use Rattle.asm_meaning.specs.Program.{Program, is_name, Environment, nothing_bound, with_value, bind_terms, Binding, ToValue, ToTerm, ToLocation, bound_to, located}
use Rattle.asm_meaning.specs.Value.{Reading, bound_values}
use Rattle.asm_code.specs.code.BoundValues.{bound_of}
use Rattle.asm_code.specs.code.Readings.{always}
use Rattle.asm_code.specs.code.RuleMeaning.{Locations, result_readings, result_locations}
use Rattle.asm_resolve.specs.code.ResolvedTerms.{Agrees}
use Rattle.asm_resolve.specs.code.ResolvedRules.{PositionsStand, IsLocationAt, location_bound}
use Rattle.asm_resolve.specs.code.Slots.{Slot, value_slot, result_slot, names_in, position_of, located_position, result_position, is_located, called_slots}
use Rattle.asm_resolve.proofs.FramesAgree.{agrees_nothing, agrees_value, bound_before, free_before}
use Rattle.asm_resolve.proofs.ScopeLaws.{value_names}

-- terms stand for no locations
terms_nowhere : (xs : List Name) (ts : Terms) (caller : Environment) (x : Name) → location_bound (bound_to (bind_terms xs ts caller) x) ≡ None
terms_nowhere [] ts caller x = refl
terms_nowhere (y ∷ xs) no_terms caller x = refl
terms_nowhere (y ∷ xs) (term_then t ts) caller x =
    elim (is_name y x) as (λ b. location_bound (cond b (Some (ToTerm t caller)) (bound_to (bind_terms xs ts caller) x)) ≡ None) [
      | true ↦ refl
      | false ↦ terms_nowhere xs ts caller x
    ]

-- parameters are no locations
not_located : (xs : List Name) (i : ℕ) → is_located (map value_slot xs) i ≡ false
not_located [] i = refl
not_located (x ∷ xs) zero = refl
not_located (x ∷ xs) (suc i) = not_located xs i

no_answer : (xs : List Name) (o : Option ℕ) → located_position (map value_slot xs) o ≡ None
no_answer xs None = refl
no_answer xs (Some i) = ap (λ b. cond b (Some i) None) (not_located xs i)

-- after one more slot
place_behind : (s : Slot) (slots : List Slot) (l : Option Location) (ls : Locations) (gs : List Value) (b : Option Binding) (o : Option ℕ) → IsLocationAt (located_position slots o) ls gs b
    → IsLocationAt (located_position (s ∷ slots) (option_map suc o)) (l ∷ ls) gs b
place_behind s slots l ls gs b None is = is
place_behind s slots l ls gs b (Some i) is = by (is_located slots i) is
  where
    by : (c : Bool) → IsLocationAt (cond c (Some i) None) ls gs b → IsLocationAt (cond c (Some (suc i)) None) (l ∷ ls) gs b
    by true it = it
    by false it = it

module _ (program : Program) where
  pub stands_nothing : PositionsStand program [] nothing_bound [] [] []
  stands_nothing = record { values = agrees_nothing program []; places = λ x. refl; bound = λ A. refl }

  module _ (slots : List Slot) (e : Environment) (rs : List Reading) (ls : Locations) (gs : List Value) (stands : PositionsStand program slots e rs ls gs) (x : Name) (v : Value) where
    place_here : (y : Name) (b : Bool) → IsLocationAt (located_position (value_slot x ∷ slots) (cond b (Some 0) (option_map suc (position_of (names_in slots) y)))) (None ∷ ls) gs (cond b (Some (ToValue v)) (bound_to e y))
    place_here y true = refl
    place_here y false = place_behind (value_slot x) slots None ls gs (bound_to e y) (position_of (names_in slots) y) (stands.places y)

    pub stands_value : PositionsStand program (value_slot x ∷ slots) (with_value x v e) (always v ∷ rs) (None ∷ ls) gs
    stands_value = record {
      values = agrees_value program (names_in slots) e rs stands.values x v;
      places = λ y. place_here y (is_name x y);
      bound = λ A. ap (λ vs. v ∷ vs) (stands.bound A);
    }

  -- ---- in the body of a rule that is called

  module _ (xs : List Name) (inner : Environment) (rs : List Reading) (agrees : Agrees program xs inner rs) (nowhere : (x : Name) → location_bound (bound_to inner x) ≡ None)
      (valued : (A : State) → bound_of rs [] A ≡ bound_values program A inner) where
    named : Agrees program (names_in (map value_slot xs)) inner rs
    named = subst (λ ys. Agrees program ys inner rs) (sym (value_names xs)) agrees

    nothing_here : (ls : Locations) (gs : List Value) (y : Name) → IsLocationAt (result_position (map value_slot xs) y) ls gs (bound_to inner y)
    nothing_here ls gs y = subst (λ o. IsLocationAt o ls gs (bound_to inner y)) (sym (no_answer xs (position_of (names_in (map value_slot xs)) y))) (nowhere y)

    answer_here : (l : Location) (ws : List Value) (y : Name) (b : Bool)
        → IsLocationAt (located_position (result_slot ∷ map value_slot xs) (cond b (Some 0) (option_map suc (position_of (names_in (map value_slot xs)) y)))) (Some l ∷ []) ws
        (cond b (Some (ToLocation l ws)) (bound_to inner y))
    answer_here l ws y true = (l, refl, refl)
    answer_here l ws y false = place_behind result_slot (map value_slot xs) (Some l) [] ws (bound_to inner y) (position_of (names_in (map value_slot xs)) y) (nothing_here [] ws y)

    pub stands_around : (l : Option Location) (ws : List Value) → PositionsStand program (called_slots (is_some l) xs) (located l ws inner) (result_readings l ++ rs) (result_locations l) ws
    stands_around None ws = record { values = named; places = nothing_here [] ws; bound = valued }
    stands_around (Some l) ws = record {
      values = record {
        bound = λ y i is. bound_before program (names_in (map value_slot xs)) inner rs named (ToLocation l ws) y i (is_name result y) (position_of (names_in (map value_slot xs)) y) refl is;
        free = λ y is. free_before program (names_in (map value_slot xs)) inner rs named (ToLocation l ws) y (is_name result y) (position_of (names_in (map value_slot xs)) y) refl is;
      };
      places = λ y. answer_here l ws y (is_name result y);
      bound = valued;
    }

  pub stands_called : (names xs : List Name) (ts : Terms) (caller : Environment) (rs : List Reading) → Agrees program names (bind_terms xs ts caller) rs
      → ((A : State) → bound_of rs [] A ≡ bound_values program A (bind_terms xs ts caller)) → (l : Option Location) (ws : List Value)
      → PositionsStand program (called_slots (is_some l) names) (located l ws (bind_terms xs ts caller)) (result_readings l ++ rs) (result_locations l) ws
  stands_called names xs ts caller rs agrees valued = stands_around names (bind_terms xs ts caller) rs agrees (terms_nowhere xs ts caller) valued
