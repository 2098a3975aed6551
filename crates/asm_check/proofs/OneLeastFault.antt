-- Free. There is at most one least fault.
use Rattle.std.proofs.Common.{◌≡◌, ℕ, arith, inl, inr}
use Rattle.asm_check.specs.Faults.{IsUpTo}
use Rattle.asm_check.specs.Laws.{LeastIsOnly}

both : (a n b m : ℕ) → IsUpTo a n b m → IsUpTo b m a n → (a ≡ b) × (n ≡ m)
both a n b m (inl h) (inl k) = absurd (omega arith)
both a n b m (inl h) (inr k) = let e = k.0 in absurd (omega (arith, e))
both a n b m (inr h) (inl k) = let e = h.0 in absurd (omega (arith, e))
both a n b m (inr h) (inr k) = let below = h.1 in let above = k.1 in (h.0, omega (arith, below, above))

pub least_is_only : LeastIsOnly
least_is_only spec a n b m one other = both a n b m (one.least b m other.fault) (other.least a n one.fault)
