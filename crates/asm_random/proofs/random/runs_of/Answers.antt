use Rattle.std.proofs.Common.{◌≡◌, ◌+◌, ◌≤◌, ℕ, None, Option, Some, rules, subst, sym, arith}
use Rattle.std.specs.Prelude.{Bool, IfNone, IfSome}
use Rattle.asm_state.specs.Location.{State}
use Rattle.asm_reader.specs.ExactLines.{exactly}
use Rattle.asm_meaning.specs.Run.{Specification}
use Rattle.asm_explore.specs.declared.outcomes.outcomes_error.RuleOverLimit.{RuleOverLimit}
use Rattle.asm_random.specs.code.Drafts.{draft_lines}
use Rattle.asm_random.specs.FineRuns.{AreFine, IsFineRun, MadeRun}
use Rattle.asm_random.specs.code.DraftSteps.{IsFineDraft, IsWrongDraft}
use Rattle.asm_random.specs.code.ResolvedRuns.{crowds_in, rests_in, right_in, specification_in}
use Rattle.asm_random.proofs.DraftRuns.{fine_more}
use Rattle.asm_random.proofs.random.runs_of.Goals as goal

some : {X : Type 0} (o : Option X) (x : X) (P : X → Type 0) → o ≡ Some x → IfSome o P → P x
some o x P is h = subst (λ it. IfSome it P) is h

nothing : {X : Type 0} (o : Option X) (P : Type 0) → o ≡ None → IfNone o P → P
nothing o P is h = subst (λ it. IfNone it P) is h

-- one more fine run, of as many steps as are counted
one_more : (specification : Specification) (turns : ℕ) (crowds : State → RuleOverLimit → Type 0) (most : ℕ) (right rests : State → Bool) (runs total counted : ℕ) (one : MadeRun) → counted ≡ one.steps
    → AreFine specification turns crowds most right rests runs total → IsFineRun specification turns crowds most right rests one
    → AreFine specification turns crowds most right rests (runs + 1) (total + counted)
one_more specification turns crowds most right rests runs total counted one same are_fine is_fine =
    subst (λ (k : ℕ). AreFine specification turns crowds most right rests (runs + 1) (total + k)) (sym same)
    (fine_more specification turns crowds right rests most runs total one are_fine is_fine)

pub loop-number-preserved : goal.loop-number-preserved
loop-number-preserved g c =
    let m = c.args.specified.now in
    let steps = c.args.question.now.steps in
    let drawn = c.in_ok-draft.field-0 in
    let one : MadeRun = record { script = exactly (draft_lines drawn.draft); steps = drawn.steps } in
    let fine = nothing drawn.fault (IsFineDraft m steps drawn.draft drawn.steps) c.in_default.is c.in_ok-draft.ensures.fine in
    record {
      fine = one_more (specification_in m) m.turns (crowds_in m) steps (right_in m) (rests_in m) c.loop-number.number c.loop-number.made c.from-made.result one c.from-made.ensures
          c.loop-number.invariant.fine fine;
      few = search rules;
    }

pub returns-in-Some-clause-claims : goal.returns-in-Some-clause-claims
returns-in-Some-clause-claims g c =
    let m = c.args.specified.now in
    let steps = c.args.question.now.steps in
    let drawn = c.in_ok-draft.field-0 in
    c.in_ok-finding.ensures.claims steps (some drawn.fault c.in-Some.fault (IsWrongDraft m steps drawn.draft drawn.steps) c.in-Some.is c.in_ok-draft.ensures.wrong)

pub returns-in-Some-clause-counts : goal.returns-in-Some-clause-counts
returns-in-Some-clause-counts g c =
    let m = c.args.specified.now in
    let l = c.loop-number in
    let steps = c.args.question.now.steps in
    let drawn = c.in_ok-draft.field-0 in
    let added = c.from-made.ensures in
    let shown : drawn.steps ≤ drawn.steps = omega arith in
    c.in_ok-finding.ensures.counts steps c.args.question.now.runs (l.number + 1) (l.made + c.from-made.result) (record {
      count = omega arith;
      limited = omega (arith, c.loop-number-test.true);
      before = l.made;
      fine = l.invariant.fine;
      drawn = exactly (draft_lines drawn.draft);
      last = drawn.steps;
      kind = c.in-Some.fault;
      wrong = some drawn.fault c.in-Some.fault (IsWrongDraft m steps drawn.draft drawn.steps) c.in-Some.is c.in_ok-draft.ensures.wrong;
      sum = omega (arith, added);
      no_later = shown;
      same_kind = (λ is. is, λ is. is);
    })
