-- Free. What the position of a value in a list says: the value is there, or nowhere.
use Rattle.std.proofs.Common.{◌≡◌, ℕ, ◌<◌, ◌≤◌, Bool, true, false, List, length, slice_index_or, Some, None, refl, sym, ap, ◌∙◌, arith}
use Rattle.std.specs.List.{list_any, position, position_or_len}
use Rattle.std.proofs.lemmas.Bool.{false≢true}
use Rattle.std.proofs.lemmas.Grind.{common_steps}
use Rattle.std.proofs.lemmas.List.Folds.{Any-from_list_any}
use Rattle.std.proofs.lemmas.List.Quantifiers.{position-Some}
use Rattle.std.proofs.lemmas.List.Sums.{fails_before_first}
use Rattle.asm_state.specs.declared.value.Value.{Value}
use Rattle.asm_state.specs.declared.value.Value.TheVariants.{Undef}
use Rattle.asm_state.specs.Operation.{is_same}
use Rattle.asm_state.proofs.UpdateLemmas.Updates.{same_value}

-- if it has one, the value is there
pub position_found : (v : Value) (vs : List Value) (p : ℕ) → position (is_same v) vs ≡ Some p → (p < length vs) × (slice_index_or vs p Undef ≡ v)
position_found v vs p e =
    let at = position-Some (is_same v) vs p Undef e in
    (at.0, sym (same_value v (slice_index_or vs p Undef) at.1))

-- a list that has no position of the value is passed to its end
past_end : (p : Value → Bool) (vs : List Value) → position p vs ≡ None → length vs ≤ position_or_len p vs
past_end p vs e = grind (arith, common_steps)

-- if it has none, the value is nowhere
pub position_missed : (v : Value) (vs : List Value) → position (is_same v) vs ≡ None → list_any (is_same v) vs ≡ false
position_missed v vs e =
    elim (list_any (is_same v) vs) as (λ b. list_any (is_same v) vs ≡ b → b ≡ false) [
      | true ↦ λ found.
          let at = Any-from_list_any (is_same v) vs found in
          let passed = past_end (is_same v) vs e in
          let fails = fails_before_first (is_same v) vs at.0 at.1 (omega (arith, at.2)) in
          absurd (false≢true (sym fails ∙ ap (is_same v) at.3 ∙ at.4))
      | false ↦ λ none. refl
    ] refl
