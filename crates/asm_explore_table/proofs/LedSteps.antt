-- Free. Where a step leads.
--     led_on         a consistent set leads to the state that it is fired to
--     led_nowhere    one that isn't leads nowhere
use Rattle.std.proofs.Common.{◌≡◌, Bool, true, false, cond, Some, None, refl, ap}
use Rattle.asm_state.specs.Location.{State}
use Rattle.asm_state.specs.UpdateLaws.{TestLaws}
use Rattle.asm_state.specs.Updates.{UpdateSet, IsConsistent, fire, is_consistent}
use Rattle.asm_meaning.specs.Yields.{Gives}
use Rattle.asm_explore_table.specs.Rows.{led}

module _ (laws : TestLaws) (A : State) (U : UpdateSet) where
  pub led_on : IsConsistent U → led A (Gives U) ≡ Some (fire A U)
  led_on is = ap (λ b. cond b (Some (fire A U)) None) ((laws.consistency U).1 is)

  fails : ¬ (IsConsistent U) → (b : Bool) → is_consistent U ≡ b → is_consistent U ≡ false
  fails bad true is = absurd (bad ((laws.consistency U).0 is))
  fails bad false is = is

  pub led_nowhere : ¬ (IsConsistent U) → led A (Gives U) ≡ None
  led_nowhere bad = ap (λ b. cond b (Some (fire A U)) None) (fails bad (is_consistent U) refl)
