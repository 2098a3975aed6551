-- Free. Steps from quiet states.
--     quiet_stays           a step from a quiet state leads to it
--     exhausted_changes, inconsistent_changes, wrong_changes
--                           a state from which a step goes wrong isn't quiet
--     alike_quiet           a state is quiet if a step from it leads to it, and its steps are alike
--                           under all scripts
use Rattle.std.proofs.Common.{◌≡◌, ◌∙◌, ℕ, Bool, true, false, sym, ap, subst}
use Rattle.asm_state.specs.Location.{State}
use Rattle.asm_state.specs.Updates.{UpdateSet, IsConsistent, fire}
use Rattle.asm_reader.specs.ScriptLines.{Script}
use Rattle.asm_meaning.specs.Run.{Specification, IsStep}
use Rattle.asm_meaning.specs.Yields.{Path, Result, Gives, Exhausted}
use Rattle.asm_explore.specs.Search.{IsQuiet}
use Rattle.asm_random.specs.code.WrongSteps.{IsSameForAll, yields}

one_set : (r : Result) (U V : UpdateSet) → r ≡ Gives U → r ≡ Gives V → U ≡ V
one_set r U V is also = cc

not_both : (r : Result) (U : UpdateSet) (q : Path) → r ≡ Gives U → r ≡ Exhausted q → ⊥
not_both r U q is also = cc

not_both_ways : (b : Bool) → b ≡ true → b ≡ false → ⊥
not_both_ways b is also = cc

module _ (specification : Specification) (turns : ℕ) (script : Script) (step : ℕ) (A : State) where
  abbrev result : Result
  result = yields specification turns script step A

  pub quiet_stays : (B : State) → IsStep specification turns script step A B → IsQuiet specification turns A → B ≡ A
  quiet_stays B (U, is, good, leads) quiet =
      let q = quiet script step in
      leads ∙ ap (fire A) (one_set result U q.set is q.gives) ∙ q.leads

  pub exhausted_changes : (p : Path) → result ≡ Exhausted p → ¬ (IsQuiet specification turns A)
  exhausted_changes p is quiet = let q = quiet script step in not_both result q.set p q.gives is

  pub inconsistent_changes : (U : UpdateSet) → result ≡ Gives U → ¬ (IsConsistent U) → ¬ (IsQuiet specification turns A)
  inconsistent_changes U is bad quiet = let q = quiet script step in bad (subst IsConsistent (one_set result q.set U q.gives is) q.consistent)

  pub wrong_changes : (B : State) (right : State → Bool) → IsStep specification turns script step A B → right A ≡ true → right B ≡ false → ¬ (IsQuiet specification turns A)
  wrong_changes B right leads is_right wrong quiet = not_both_ways (right B) (ap right (quiet_stays B leads quiet) ∙ is_right) wrong

  pub alike_quiet : (B : State) → IsStep specification turns script step A B → B ≡ A → IsSameForAll specification turns A → IsQuiet specification turns A
  alike_quiet B (U, is, good, leads) same alike = λ other later. record { set = U; gives = alike other script later step ∙ is; consistent = good; leads = sym leads ∙ same }
