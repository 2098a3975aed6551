-- Free. Positions when values come first: within the values, and after them.
use Rattle.std.proofs.Common.{◌≡◌, ℕ, zero, suc, ◌-◌, ◌<◌, ◌≤◌, List, [], ◌∷◌, ◌++◌, length, map, get_or, Option, None, refl, ap, ◌∙◌, arith}
use Rattle.std.specs.Prelude.{slice_index_or}
use Rattle.asm_state.specs.declared.value.Value.{Value}
use Rattle.asm_meaning.specs.Value.{Reading}
use Rattle.asm_code.specs.code.Readings.{always, at_position}

pub within_values : (vs : List Value) (rs : List Reading) (i : ℕ) (v : Value) → i < length vs → v ≡ get_or vs i v → always v ≡ at_position (map always vs ++ rs) i
within_values [] rs i v below is = absurd (omega (arith, below))
within_values (w ∷ vs) rs zero v below is = ap always is
within_values (w ∷ vs) rs (suc i) v below is = within_values vs rs i v (omega (arith, below)) is

pub behind_values : (vs : List Value) (rs : List Reading) (i : ℕ) → length vs ≤ i → at_position rs (i - length vs) ≡ at_position (map always vs ++ rs) i
behind_values [] rs i past = let e : i - length {A = Value} [] ≡ i = omega arith in ap (at_position rs) e
behind_values (v ∷ vs) rs zero past = absurd (omega (arith, past))
behind_values (v ∷ vs) rs (suc i) past =
    let e : suc i - length (v ∷ vs) ≡ i - length vs = omega arith in ap (at_position rs) e ∙ behind_values vs rs i (omega (arith, past))

-- no value is a location
pub none_within : {L : Type 0} (vs : List Value) (ls : List (Option L)) (i : ℕ) → i < length vs → None ≡ slice_index_or (map (λ (v : Value). None) vs ++ ls) i None
none_within [] ls i below = absurd (omega (arith, below))
none_within (v ∷ vs) ls zero below = refl
none_within (v ∷ vs) ls (suc i) below = none_within vs ls i (omega (arith, below))
