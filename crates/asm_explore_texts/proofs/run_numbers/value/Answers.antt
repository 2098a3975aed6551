use Rattle.std.proofs.Common.{ℕ, ◌^◌, ◌<◌, ◌≤◌, arith}
use Rattle.std.proofs.Math.Nat.{pow-le-pow_right}
use Rattle.asm_explore_texts.proofs.run_numbers.value.Goals as goal

-- before the seventh digit there are six
six_digits : (i : ℕ) → i < 7 → 10 ^ i ≤ 1_000_000
six_digits i h = pow-le-pow_right {n = 10} (omega arith) {i = i} {j = 6} (omega arith)

pub overflow_mul-value : goal.overflow_mul-value
overflow_mul-value c = let few = six_digits c.loop-digit.digit-index (omega arith) in omega (arith, few, c.loop-digit.invariant.below)

pub overflow_add-value : goal.overflow_add-value
overflow_add-value c = let few = six_digits c.loop-digit.digit-index (omega arith) in omega (arith, few, c.loop-digit.invariant.below)
