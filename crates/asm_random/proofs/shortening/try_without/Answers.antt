use Rattle.std.proofs.Common.{◌≡◌, ◌∙◌, Bool, true, false, Option, Some, refl, subst, sym}
use Rattle.std.specs.Prelude.{IfSome}
use mathlib.Core.Bool.{beq}
use Rattle.asm_random.specs.code.FaultKinds.{is_deadlock}
use Rattle.asm_random.specs.code.ShorterRuns.{IsWrongFor}
use Rattle.asm_random.proofs.Shortened.{made_shorter}
use Rattle.asm_random.proofs.shortening.try_without.Goals as goal

some : {X : Type 0} (o : Option X) (x : X) (P : X → Type 0) → o ≡ Some x → IfSome o P → P x
some o x P is h = subst (λ it. IfSome it P) is h

-- what is the same, as the code tests it
alike : (a b c d : Bool) → a ≡ c → b ≡ d → beq a b ≡ true → c ≡ d
alike a b c d is also same = sym is ∙ by_cases a b same ∙ also
  where
    by_cases : (a b : Bool) → beq a b ≡ true → a ≡ b
    by_cases true true h = refl
    by_cases true false h = sym h
    by_cases false true h = h
    by_cases false false h = refl

pub returns-then-is_deadlock : goal.returns-then-is_deadlock
returns-then-is_deadlock c =
    let m = c.args.specified.now in
    let kind : is_deadlock c.in-Some.better.wrong.fault ≡ is_deadlock c.args.run.now.wrong.fault =
    alike c.is_deadlock.result c.is_deadlock-in-Some.result (is_deadlock c.in-Some.better.wrong.fault) (is_deadlock c.args.run.now.wrong.fault)
    c.is_deadlock.ensures c.is_deadlock-in-Some.ensures c.if-is_deadlock.true in
    made_shorter m c.args.run.now c.in-Some.better c.steps_of-most.result c.steps_of-most.ensures
    (λ most up. some c.in_ok-better.field-0 c.in-Some.better (IsWrongFor m most) c.in-Some.is (c.in_ok-better.ensures.wrong most up))
    kind
