-- Free. Runs that are fine so far.
--     IsFineTo script n A    the run of n steps comes to its limit in this state, through states that
--                            are right, and in which no step began in what is seen to be a deadlock
--     fine_first             the run of no step
--     fine_next              one more step
--     fine_run               such a run is fine
--     fine_wrong             and goes wrong if its next step does
use Rattle.std.proofs.Common.{◌≡◌, ℕ, zero, suc, ◌+◌, ◌<◌, ◌≤◌, ◌⊎◌, Bool, true, inl, refl, sym, ap, subst, ◌∙◌, arith, below_more}
use Rattle.asm_state.specs.Location.{State}
use Rattle.asm_reader.specs.ScriptLines.{Script}
use Rattle.asm_meaning.specs.Run.{Specification, run, IsAfter, IsStep}
use Rattle.asm_meaning.specs.RunLaws.{RunLaws}
use Rattle.asm_explore.specs.declared.fault.Fault.{Fault}
use Rattle.asm_explore.specs.declared.fault.Fault.TheVariants as fault
use Rattle.asm_explore.specs.declared.outcomes.outcomes_error.RuleOverLimit.{RuleOverLimit}
use Rattle.asm_explore.specs.Search.{IsAliveOrCrowded, IsDeadlock, steps_to}
use Rattle.asm_random.specs.BadDrafts.{IsWrongUnder}
use Rattle.asm_random.specs.FineRuns.{IsFineRun, MayEnd}
use Rattle.asm_random.specs.code.WrongSteps.{GoesWrong}
use Rattle.asm_random.proofs.Endings.{goes_wrong}
use Rattle.asm_random.proofs.QuietSteps.{exhausted_changes, inconsistent_changes, wrong_changes}

module _ (specification : Specification) (turns : ℕ) (crowds : State → RuleOverLimit → Type 0) (right rests : State → Bool) where
  abbrev IsPassed : State → Type 0
  IsPassed = IsAliveOrCrowded specification turns crowds rests

  abbrev dead : State → Type 0
  dead = IsDeadlock specification turns rests

  pub record IsFineTo (script : Script) (n : ℕ) (A : State) : Type 0 where
    pub after : IsAfter specification turns script n A
    pub are_right : (k : ℕ) → k < n + 1 → right (run specification turns script k).last ≡ true
    pub passed : (k : ℕ) → k < n → IsPassed (run specification turns script k).last

  pub fine_first : (script : Script) (A : State) → A ≡ specification.initial → right specification.initial ≡ true → IsFineTo script 0 A
  fine_first script A is h = record { after = (refl, sym is); are_right = first; passed = λ k low. absurd (omega (arith, low)) }
    where
      first : (k : ℕ) → k < 0 + 1 → right (run specification turns script k).last ≡ true
      first zero low = h
      first (suc k) low = absurd (omega (arith, low))

  module _ (script : Script) (n : ℕ) (A : State) (h : IsFineTo script n A) (laws : RunLaws specification turns script) where
    -- one more state is passed
    passed_more : IsPassed A → (k : ℕ) → k < n + 1 → IsPassed (run specification turns script k).last
    passed_more here = below_more (λ k. IsPassed (run specification turns script k).last) n h.passed (subst IsPassed (sym h.after.1) here)

    pub fine_next : (B : State) → IsStep specification turns script (n + 1) A B → right B ≡ true → IsPassed A → IsFineTo script (n + 1) B
    fine_next B step is_right here =
        let there = laws.more n A B h.after step in
        record {
          after = there;
          are_right = below_more (λ k. right (run specification turns script k).last ≡ true) (n + 1) h.are_right (ap right there.1 ∙ is_right);
          passed = passed_more here;
        }

    pub fine_run : (most : ℕ) → n ≤ most → (n ≡ most) ⊎ MayEnd specification turns crowds rests A → IsFineRun specification turns crowds most right rests record { script = script; steps = n }
    fine_run most low enough =
        record {
          limited = low;
          end = h.after.0;
          are_right = λ k up. h.are_right k (omega (arith, up));
          alive = h.passed;
          enough = subst (λ B. (n ≡ most) ⊎ MayEnd specification turns crowds rests B) (sym h.after.1) enough;
        }

    -- the state in which a step begins that goes wrong is no deadlock, if the fault is none
    passed_before : (f : Fault) → GoesWrong specification turns script right dead (n + 1) A f → right A ≡ true → (k : ℕ) → k < steps_to f (n + 1) → IsPassed (run specification turns script k).last
    passed_before fault.Exhausted (q, is) is_right = passed_more (inl (λ d. exhausted_changes specification turns script (n + 1) A q is d.0))
    passed_before fault.Inconsistent (U, is, bad) is_right = passed_more (inl (λ d. inconsistent_changes specification turns script (n + 1) A U is bad d.0))
    passed_before fault.Wrong (B, step, wrong) is_right = passed_more (inl (λ d. wrong_changes specification turns script (n + 1) A B right step is_right wrong d.0))
    passed_before fault.Deadlock wrong is_right = λ k low. h.passed k (omega (arith, low))

    pub fine_wrong : (most : ℕ) (f : Fault) → n < most → GoesWrong specification turns script right dead (n + 1) A f
        → IsWrongUnder specification turns crowds most right rests script (n + 1) f
    fine_wrong most f low wrong =
        let here : n < n + 1 = omega arith in
        record {
          counted = omega arith;
          limited = omega (arith, low);
          wrong = goes_wrong specification turns script laws right rests n A f h.after wrong;
          before = h.are_right;
          alive = passed_before f wrong (ap right (sym h.after.1) ∙ h.are_right n here);
        }
