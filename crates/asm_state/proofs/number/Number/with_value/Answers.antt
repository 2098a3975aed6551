use Rattle.std.proofs.Common.{arith, rules}
use Rattle.std.proofs.lemmas.Int.{ints}
use Rattle.asm_state.proofs.Numbers.{kept}
use Rattle.asm_state.specs.Numbers.{number_with}
use Rattle.asm_state.proofs.number.Number.with_value.Goals as goal

pub returns-then-value-le-MAX_NUMBER : goal.returns-then-value-le-MAX_NUMBER
returns-then-value-le-MAX_NUMBER c =
    kept _ _ _ (omega (arith, ints)) (omega (arith, ints))

pub returns-else-value : goal.returns-else-value
unfolding number_with
returns-else-value c = search rules
