use Rattle.std.proofs.Common.{◌≡◌, ℕ, Global, Option, String, string_bytes, subst, sym}
use Rattle.std.specs.Prelude.{IfNone, IfSome, None, Some}
use Rattle.asm_reader.specs.ExactLines.{exactly}
use Rattle.asm_explore.specs.ChosenLines.{AreTooLong, IsChosenText, chosen_lines}
use Rattle.asm_explore.specs.Search.{steps_to}
use Rattle.asm_explore.specs.declared.fault.Fault.{Fault}
use Rattle.asm_explore.specs.declared.resolved_question.ResolvedQuestion.{ResolvedQuestion}
use Rattle.asm_random.specs.BadDrafts.{IsWrongUnder}
use Rattle.asm_random.specs.code.Drafts.{draft_lines}
use Rattle.asm_random.specs.RandomResults.{IsLast}
use Rattle.asm_random.specs.code.ResolvedRuns.{crowds_in, rests_in, right_in, specification_in}
use Rattle.asm_random.proofs.SameRuns.{wrong_alike}
use Rattle.asm_random.proofs.finding.finding_of.Goals as goal

some : {X : Type 0} (o : Option X) (x : X) (P : X → Type 0) → o ≡ Some x → IfSome o P → P x
some o x P is h = subst (λ it. IfSome it P) is h

nothing : {X : Type 0} (o : Option X) (P : Type 0) → o ≡ None → IfNone o P → P
nothing o P is h = subst (λ it. IfNone it P) is h

-- the step is named by a number of 64 bits
shown_in : (m : ResolvedQuestion) (most asked runs total number : ℕ) (f : Fault) {named step : ℕ} → named ≡ step
    → IsLast (specification_in m) m.turns (crowds_in m) most (right_in m) (rests_in m) asked runs total number step f
    → IsLast (specification_in m) m.turns (crowds_in m) most (right_in m) (rests_in m) asked runs total number named f
shown_in m most asked runs total number f same last =
    subst (λ (k : ℕ). IsLast (specification_in m) m.turns (crowds_in m) most (right_in m) (rests_in m) asked runs total number k f) (sym same) last

pub chosen_text-requires : goal.chosen_text-requires
chosen_text-requires c = c.requires.specified

pub returns-in-Some-clause-claims : goal.returns-in-Some-clause-claims
returns-in-Some-clause-claims c = λ most wrong.
    let m = c.args.specified.now in
    let draft = exactly (draft_lines c.args.run.now.draft) in
    let fault = c.args.run.now.wrong.fault in
    let step = c.args.run.now.wrong.step in
    let same : c.steps_to_it.result ≡ steps_to fault step = c.steps_to_it.ensures in
    let named : c.from-step.result ≡ step = c.from-step.ensures in
    let given = some c.in_ok-script.field-0 c.in-Some.script (λ (text : String Global). IsChosenText (specification_in m) m.turns draft c.steps_to_it.result (string_bytes text)) c.in-Some.is c.in_ok-script.ensures.some in
    let found = subst (λ (k : ℕ). IsChosenText (specification_in m) m.turns draft k (string_bytes c.in-Some.script)) same given in
    record {
      lines = found.lines;
      text = found.is;
      spelled = found.spelled;
      chosen = subst (λ (k : ℕ). found.lines ≡ chosen_lines (specification_in m) m.turns (exactly found.lines) (steps_to fault k)) (sym named) found.chosen;
      wrong = subst (λ (k : ℕ). IsWrongUnder (specification_in m) m.turns (crowds_in m) most (right_in m) (rests_in m) (exactly found.lines) k fault) (sym named)
          (wrong_alike (specification_in m) m.turns (crowds_in m) most (right_in m) (rests_in m) (exactly found.lines) draft step fault found.again wrong);
    }

pub returns-in-Some-clause-counts : goal.returns-in-Some-clause-counts
returns-in-Some-clause-counts c = λ most asked runs total last. shown_in c.args.specified.now most asked runs total c.args.number c.args.run.now.wrong.fault c.from-step.ensures last

pub returns-in-None-clause-claims : goal.returns-in-None-clause-claims
returns-in-None-clause-claims c = λ most wrong.
    let m = c.args.specified.now in
    let draft = exactly (draft_lines c.args.run.now.draft) in
    let fault = c.args.run.now.wrong.fault in
    let step = c.args.run.now.wrong.step in
    let same : c.steps_to_it.result ≡ steps_to fault step = c.steps_to_it.ensures in
    let named : c.from-step.result ≡ step = c.from-step.ensures in
    let long = nothing c.in_ok-script.field-0 (AreTooLong (chosen_lines (specification_in m) m.turns draft c.steps_to_it.result)) c.in-None.is c.in_ok-script.ensures.none in
    record {
      script = draft;
      wrong = subst (λ (k : ℕ). IsWrongUnder (specification_in m) m.turns (crowds_in m) most (right_in m) (rests_in m) draft k fault) (sym named) wrong;
      long = subst (λ (k : ℕ). AreTooLong (chosen_lines (specification_in m) m.turns draft (steps_to fault k))) (sym named)
          (subst (λ (k : ℕ). AreTooLong (chosen_lines (specification_in m) m.turns draft k)) same long);
    }

pub returns-in-None-clause-counts : goal.returns-in-None-clause-counts
returns-in-None-clause-counts c = λ most asked runs total last. (
  c.args.number,
  shown_in c.args.specified.now most asked runs total c.args.number c.args.run.now.wrong.fault c.from-step.ensures last,
)
