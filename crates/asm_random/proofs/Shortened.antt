-- Free. Runs that are made shorter, bit by bit.
--     stays_same     a run stays as wrong as it is
--     stays_on       one that is made shorter twice
--     made_shorter   one of no more steps than the other, which goes wrong as it does
--     last_shown     what is said of the last run, if it is shown by a shorter one
use Rattle.std.proofs.Common.{◌≡◌, ◌≤◌, ℕ, true, refl, sym, ap, ◌∙◌, arith}
use Rattle.asm_explore.specs.declared.fault.Fault.{Fault}
use Rattle.asm_explore.specs.declared.fault.Fault.TheVariants as fault
use Rattle.asm_explore.specs.declared.resolved_question.ResolvedQuestion.{ResolvedQuestion}
use Rattle.asm_random.specs.declared.bad_draft.BadDraft.{BadDraft}
use Rattle.asm_random.specs.code.FaultKinds.{is_deadlock}
use Rattle.asm_random.specs.RandomResults.{IsLast}
use Rattle.asm_random.specs.code.ResolvedRuns.{crowds_in, rests_in, right_in, specification_in}
use Rattle.asm_random.specs.code.ShorterRuns.{IsWrongFor, StaysWrong}

is_dead : (f : Fault) → is_deadlock f ≡ true → f ≡ fault.Deadlock
is_dead fault.Exhausted h = cc
is_dead fault.Inconsistent h = cc
is_dead fault.Wrong h = cc
is_dead fault.Deadlock h = refl

module _ (m : ResolvedQuestion) where
  pub stays_same : (run : BadDraft) → StaysWrong m run run
  stays_same run = record { wrong = λ most h. h; no_later = omega arith; kind = refl }

  pub stays_on : (first second third : BadDraft) → StaysWrong m first second → StaysWrong m second third → StaysWrong m first third
  stays_on first second third h g =
      record {
        wrong = λ most wrong. g.wrong most (h.wrong most wrong);
        no_later = omega (arith, h.no_later, g.no_later);
        kind = g.kind ∙ h.kind;
      }

  pub made_shorter : (old new : BadDraft) (few : ℕ) → few ≤ old.wrong.step → ((most : ℕ) → few ≤ most → IsWrongFor m most new)
      → is_deadlock new.wrong.fault ≡ is_deadlock old.wrong.fault → StaysWrong m old new
  made_shorter old new few low wrong kind =
      let least : few ≤ few = omega arith in
      record {
        wrong = λ most h. wrong most (omega (arith, low, h.limited));
        no_later = omega (arith, low, (wrong few least).limited);
        kind = kind;
      }

  pub last_shown : (old new : BadDraft) (most asked runs total number : ℕ) → StaysWrong m old new
      → IsLast (specification_in m) m.turns (crowds_in m) most (right_in m) (rests_in m) asked runs total number old.wrong.step old.wrong.fault
      → IsLast (specification_in m) m.turns (crowds_in m) most (right_in m) (rests_in m) asked runs total number new.wrong.step new.wrong.fault
  last_shown old new most asked runs total number h last =
      record {
        count = last.count;
        limited = last.limited;
        before = last.before;
        fine = last.fine;
        drawn = last.drawn;
        last = last.last;
        kind = last.kind;
        wrong = last.wrong;
        sum = last.sum;
        no_later = omega (arith, h.no_later, last.no_later);
        same_kind = (
          λ is. last.same_kind.0 (is_dead old.wrong.fault (sym h.kind ∙ ap is_deadlock is)),
          λ is. is_dead new.wrong.fault (h.kind ∙ ap is_deadlock (last.same_kind.1 is)),
        );
      }
