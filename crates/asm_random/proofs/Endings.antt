-- Free. How a run ends, by its last step.
--     goes_wrong     a run goes wrong in the step after those that it makes, if that step does
use Rattle.std.proofs.Common.{◌≡◌, ℕ, ◌+◌, ◌-◌, ◌<◌, Bool, ap, sym, subst, ◌∙◌, arith}
use Rattle.asm_state.specs.Location.{State}
use Rattle.asm_reader.specs.ScriptLines.{Script}
use Rattle.asm_meaning.specs.Run.{Specification, run, IsAfter}
use Rattle.asm_meaning.specs.RunLaws.{RunLaws}
use Rattle.asm_explore.specs.declared.fault.Fault.{Fault}
use Rattle.asm_explore.specs.declared.fault.Fault.TheVariants as fault
use Rattle.asm_explore.specs.Search.{GoesWrongIn, IsDeadlock}
use Rattle.asm_random.specs.code.WrongSteps.{GoesWrong}

module _ (specification : Specification) (turns : ℕ) (script : Script) (laws : RunLaws specification turns script) (right rests : State → Bool) (n : ℕ) (A : State) where
  abbrev dead : State → Type 0
  dead B = IsDeadlock specification turns rests B

  pub goes_wrong : (f : Fault) → IsAfter specification turns script n A → GoesWrong specification turns script right dead (n + 1) A f → GoesWrongIn specification turns right rests script f (n + 1)
  goes_wrong fault.Exhausted after (q, is) = let low : n < n + 1 = omega arith in (q, (laws.exhausted n (n + 1) A q low after is).0)
  goes_wrong fault.Inconsistent after (U, is, bad) = let low : n < n + 1 = omega arith in (U, (laws.faulty n (n + 1) A U low after is bad).0, bad)
  goes_wrong fault.Wrong after (B, step, wrong) =
      let there = laws.more n A B after step in
      (there.0, ap right there.1 ∙ wrong)
  goes_wrong fault.Deadlock after (B, step, same, is_dead) =
      let count : n + 1 - 1 ≡ n = omega arith in
      let last : (run specification turns script (n + 1 - 1)).last ≡ B = ap (λ k. (run specification turns script k).last) count ∙ after.1 ∙ sym same in
      (ap (λ k. (run specification turns script k).end) count ∙ after.0, subst dead (sym last) is_dead)
