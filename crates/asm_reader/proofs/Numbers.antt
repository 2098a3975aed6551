-- Free. Numbers that tokens stand for.
use Rattle.std.proofs.Common.{◌≡◌, ℕ, ◌<◌, Bool, true, false, Option, Some, None, refl, arith}
use Rattle.std.specs.Prelude.{unsigned_abs}
use Rattle.std.proofs.lemmas.Int.{ints}
use Rattle.asm_state.specs.Bounds.{greatest_number}
use Rattle.asm_state.specs.declared.number.Number.{Number}
use Rattle.asm_state.specs.Numbers.{number_with}
use Rattle.asm_state.proofs.ValueLaws.{value_laws}
use Rattle.asm_reader.specs.Productions.{signed}

outside : (b : Bool) (n : ℕ) (m : Number) → unsigned_abs greatest_number < n → m.value ≡ signed b n → ⊥
outside true n m h e = omega (arith, ints, m.low, m.high)
outside false n m h e = omega (arith, ints, m.low, m.high)

pub too_great : (b : Bool) (n : ℕ) → unsigned_abs greatest_number < n → number_with (signed b n) ≡ None
too_great b n h = by (number_with (signed b n)) refl
  where
    by : (o : Option Number) → number_with (signed b n) ≡ o → number_with (signed b n) ≡ None
    by None is = is
    by (Some m) is = absurd (outside b n m h ((value_laws.with_value (signed b n) m).0 is))
