-- Free. The positions of values whose codes follow each other.
use Rattle.std.proofs.Common.{◌≡◌, ℕ, ◌-◌, Bool, true, false, cond, List, length, Some, None, refl, arith}
use Rattle.std.specs.Prelude.{nat_lt}
use Rattle.std.specs.List.{position}
use Rattle.std.proofs.lemmas.Bool.{ltb-true, ltb-false}
use Rattle.asm_state.specs.declared.value.Value.{Value}
use Rattle.asm_state.specs.code.Codes.{code_of}
use Rattle.asm_state.specs.Operation.{is_same}
use Rattle.asm_state.specs.code.ConsecutiveLaws.{ConsecutiveLaws}
use Rattle.asm_state.specs.code.ConsecutiveCodes.{AreConsecutive, code_position}
use Rattle.asm_state.proofs.UniverseValues.{in_turn_rise, position_in_turn, position_out_of_turn}

at_code : (low : ℕ) (vs : List Value) (v : Value) → AreConsecutive low vs → position (is_same v) vs ≡ code_position low (length vs) (code_of v)
at_code low vs v turn = by_tests (nat_lt (code_of v) low) (nat_lt (code_of v - low) (length vs)) refl refl
  where
    by_tests : (b c : Bool) → nat_lt (code_of v) low ≡ b → nat_lt (code_of v - low) (length vs) ≡ c → position (is_same v) vs ≡ cond b None (cond c (Some (code_of v - low)) None)
    by_tests true c e g = position_out_of_turn low vs turn v (λ from. let below = ltb-true (code_of v) low e in absurd (omega (arith, below, from)))
    by_tests false true e g = position_in_turn low vs turn v (ltb-false (code_of v) low e) (ltb-true (code_of v - low) (length vs) g)
    by_tests false false e g = position_out_of_turn low vs turn v (λ from. ltb-false (code_of v - low) (length vs) g)

pub consecutive_laws : ConsecutiveLaws
consecutive_laws = record { at_code = at_code; rise = in_turn_rise }
