-- Laws of operations.
use Rattle.std.specs.Prelude.{◌≡◌, ◌≢◌, ℤ, pos, ◌+ℤ◌, ◌*ℤ◌, ◌≤ℤ◌, ◌<ℤ◌, unsigned_abs}
use Rattle.asm_state.specs.declared.number.Number.{Number as WholeNumber}
use Rattle.asm_state.specs.declared.operation.Op.TheVariants.{Divide, Remainder}
use Rattle.asm_state.specs.declared.value.Value.TheVariants.{Number}
use Rattle.asm_state.specs.Operation.{number_or_undef, op}

-- q is the quotient and r the remainder of m by n
pub record IsDivision (m n q r : ℤ) : Type 0 where
  pub whole : m ≡ n *ℤ q +ℤ r
  pub not_negative : pos 0 ≤ℤ r
  pub below : r <ℤ pos (unsigned_abs n)

-- the two divisions of a number by one other than 0 give its quotient and its remainder
abbrev pub DivisionLaw : Type 0
DivisionLaw =
    (m n : WholeNumber) → n.value ≢ pos 0 → (q : ℤ) × (r : ℤ) × IsDivision m.value n.value q r
    × (op Divide (Number m) (Number n) ≡ number_or_undef q)
    × (op Remainder (Number m) (Number n) ≡ number_or_undef r)
