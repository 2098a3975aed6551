-- Free. There is no element beyond the last one.
use Rattle.std.proofs.Common.{◌≡◌, ℕ, ◌≤◌, Bool, true, false, refl, sym, arith}
use Rattle.std.specs.Prelude.{nat_lt}
use Rattle.std.proofs.lemmas.Bool.{false≢true}
use Rattle.std.proofs.lemmas.Bool.Decides.{nat_tests}
use Rattle.asm_state.specs.declared.element.TheConstants.{MAX_ELEMENTS}
use Rattle.asm_state.specs.declared.value.Value.TheVariants.{Undef}
use Rattle.asm_state.specs.Universe.{element, element_by_test}

test_fails : (k : ℕ) (test : Bool) (is : nat_lt k MAX_ELEMENTS ≡ test) → test ≡ false → Undef ≡ element_by_test k test is
test_fails k true is fails = absurd (false≢true (sym fails))
test_fails k false is fails = refl

pub no_element : (k : ℕ) → MAX_ELEMENTS ≤ k → Undef ≡ element k
unfolding element
no_element k above = test_fails k _ _ (grind (arith, nat_tests))
