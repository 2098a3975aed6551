use Rattle.std.proofs.Common.{◌≡◌, ◌∙◌, ◌+◌, ◌≤◌, ℕ, suc, true, false, Bool, List, Option, None, Some, length, inl, inr, refl, sym, ap, subst, arith, Vec, Global}
use Rattle.std.specs.BTreeMap.{BTreeMap}
use Rattle.std.specs.Prelude.{IfNone, IfSome}
use Rattle.asm_state.specs.code.Contents.{IsStateOf}
use Rattle.asm_state.specs.Location.{State}
use Rattle.asm_state.specs.Signature.{Shape, initial_state, state_of}
use Rattle.asm_state.specs.declared.value.Value.{Value}
use Rattle.asm_reader.specs.ExactLines.{exactly}
use Rattle.asm_meaning.specs.Run.{IsAfter, IsStep, Run, Specification}
use Rattle.asm_explore.specs.RunChoices.{asked_from}
use Rattle.asm_explore.specs.declared.resolved_question.ResolvedQuestion.{ResolvedQuestion}
use Rattle.asm_random.specs.code.Drafts.{draft_lines}
use Rattle.asm_random.specs.declared.draft.Draft.{Draft}
use Rattle.asm_random.specs.DrawnTexts.{AreDrawn, IsDrawnTo, IsUndrawnAfter, at_step, most_rounds}
use Rattle.asm_random.specs.code.DraftSteps.{AddsStep}
use Rattle.asm_random.specs.code.DrawnSteps.{EndsRun, GoesOn, IsSilent, asked_under}
use Rattle.asm_random.specs.code.ResolvedRuns.{right_in, shape_in, specification_in}
use Rattle.asm_random.proofs.DraftRuns.{grown_alike, grown_longer}
use Rattle.asm_random.proofs.DrawnSoFar.{drawn_first, drawn_grown, drawn_next, not_at_limit, still_after}
use Rattle.asm_random.proofs.drawn_run.drawn_run.Goals as goal

some : {X : Type 0} (o : Option X) (x : X) (P : X → Type 0) → o ≡ Some x → IfSome o P → P x
some o x P is h = subst (λ it. IfSome it P) is h

nothing : {X : Type 0} (o : Option X) (P : Type 0) → o ≡ None → IfNone o P → P
nothing o P is h = subst (λ it. IfNone it P) is h

-- a draft with one step more has the run that it had
still_there : (specification : Specification) (turns : ℕ) (d e : Draft) (done : ℕ) (A : State) → AddsStep d e → length d.steps.items ≡ done
    → IsAfter specification turns (exactly (draft_lines d)) done A → IsAfter specification turns (exactly (draft_lines e)) done A
still_there specification turns d e done A adds count after =
    let here : done ≤ done = omega arith in
    let same = grown_alike specification turns d e done done adds count here in
    (ap (λ (r : Run). r.end) same ∙ after.0, ap (λ (r : Run). r.last) same ∙ after.1)

-- the step that is added has this number
numbered : (d e : Draft) (done : ℕ) → AddsStep d e → length d.steps.items ≡ done → length e.steps.items ≡ suc done
numbered d e done adds count =
    let next : done + 1 ≡ suc done = omega arith in
    grown_longer d e done adds count ∙ next

-- one step more is drawn
drawn_more : (m : ResolvedQuestion) (seed : ℕ) (d e : Draft) (done : ℕ) (state : List Value) → AddsStep d e → length d.steps.items ≡ done
    → IsAfter (specification_in m) m.turns (exactly (draft_lines d)) done (state_of (shape_in m) state) → IsDrawnTo (specification_in m) m.turns (right_in m) seed (exactly (draft_lines d)) done
    → right_in m (state_of (shape_in m) state) ≡ true → AreDrawn seed 0 (length e.steps.items) (asked_under m e state (length e.steps.items))
    → IsDrawnTo (specification_in m) m.turns (right_in m) seed (exactly (draft_lines e)) (done + 1)
drawn_more m seed d e done state adds count after drawn right are =
    let spec = specification_in m in
    let script = exactly (draft_lines e) in
    let A = state_of (shape_in m) state in
    drawn_next spec m.turns (right_in m) seed script done A (drawn_grown spec m.turns (right_in m) seed d e done adds count drawn)
    (still_there spec m.turns d e done A adds count after) right
    (subst (λ (k : ℕ). AreDrawn seed 0 k (asked_from spec m.turns A (at_step script k))) (numbered d e done adds count) are)

pub loop-done-init : goal.loop-done-init
loop-done-init c =
    let m = c.args.specified.now in
    let same = c.signature.ensures in
    record {
      kept = subst (λ (sh : Shape). IsStateOf sh c.in_ok-state.state) same c.in_ok-state.ensures.state;
      count = ap (λ (ms : List (BTreeMap (Vec ℕ Global) ℕ)). length ms) c.new-draft.ensures;
      after = (refl, sym (subst (λ (sh : Shape). state_of sh c.in_ok-state.state ≡ initial_state sh) same c.in_ok-state.ensures.initial));
      drawn = drawn_first (specification_in m) m.turns (right_in m) c.args.seed (exactly (draft_lines c.new-draft.result));
    }

pub returns-in_default-clause-unsettled : goal.returns-in_default-clause-unsettled
returns-in_default-clause-unsettled c =
    let m = c.args.specified.now in
    let spec = specification_in m in
    let seed = c.args.seed in
    let i = c.loop-done.invariant in
    let d = c.loop-done.draft in
    let e = c.settle_step.new.draft in
    let script = exactly (draft_lines e) in
    let done = c.loop-done.done in
    let A = state_of (shape_in m) c.loop-done.state in
    let adds = c.in_ok-chosen.ensures.adds in
    let after = still_there spec m.turns d e done A adds i.count i.after in
    let right = sym c.is_right.ensures ∙ c.if-not-is_right.false in
    let step = length e.steps.items in
    let undrawn = nothing c.in_ok-chosen.field-0 (IsUndrawnAfter spec m.turns seed 0 step A most_rounds) c.in_default.is c.in_ok-chosen.ensures.undrawn in
    record {
      script = script;
      made = done;
      limited = omega (arith, c.loop-done-test.true);
      drawn = drawn_grown spec m.turns (right_in m) seed d e done adds i.count i.drawn;
      comes = after.0;
      is_right = ap (right_in m) after.1 ∙ right;
      undrawn =
          subst (λ (B : State). IsUndrawnAfter spec m.turns seed 0 (suc done) B most_rounds) (sym after.1)
          (subst (λ (k : ℕ). IsUndrawnAfter spec m.turns seed 0 k A most_rounds) (numbered d e done adds i.count) undrawn);
    }

pub returns-in_default-2-clause-drawn : goal.returns-in_default-2-clause-drawn
returns-in_default-2-clause-drawn c =
    let m = c.args.specified.now in
    let spec = specification_in m in
    let seed = c.args.seed in
    let i = c.loop-done.invariant in
    let d = c.loop-done.draft in
    let e = c.settle_step.new.draft in
    let script = exactly (draft_lines e) in
    let done = c.loop-done.done in
    let state = c.loop-done.state in
    let A = state_of (shape_in m) state in
    let adds = c.in_ok-chosen.ensures.adds in
    let right = sym c.is_right.ensures ∙ c.if-not-is_right.false in
    let step = length e.steps.items in
    let are = some c.in_ok-chosen.field-0 c.in-Some.chosen (λ (chosen : Bool). AreDrawn seed 0 step (asked_under m e state step)) c.in-Some.is c.in_ok-chosen.ensures.drawn in
    let ends = subst (λ (o : Option (List Value)). GoesOn spec m.turns script (c.from.result + 1) (shape_in m) state o) c.in_default-2.is c.in_ok-next.ensures in
    let ended = subst (λ (k : ℕ). EndsRun spec m.turns script (k + 1) A) c.from.ensures ends in
    record {
      limited = omega (arith, c.loop-done-test.true);
      so_far = drawn_more m seed d e done state adds i.count i.after i.drawn right are;
      whole = inr (inl (not_at_limit spec m.turns script done A (c.run_laws.ensures spec m.turns script) (still_there spec m.turns d e done A adds i.count i.after) ended));
    }

pub returns-then-is_same_state-clause-drawn : goal.returns-then-is_same_state-clause-drawn
returns-then-is_same_state-clause-drawn c =
    let m = c.args.specified.now in
    let spec = specification_in m in
    let seed = c.args.seed in
    let i = c.loop-done.invariant in
    let d = c.loop-done.draft in
    let e = c.settle_step.new.draft in
    let script = exactly (draft_lines e) in
    let done = c.loop-done.done in
    let state = c.loop-done.state in
    let A = state_of (shape_in m) state in
    let B = state_of (shape_in m) c.in-Some-2.next in
    let adds = c.in_ok-chosen.ensures.adds in
    let right = sym c.is_right.ensures ∙ c.if-not-is_right.false in
    let step = length e.steps.items in
    let are = some c.in_ok-chosen.field-0 c.in-Some.chosen (λ (chosen : Bool). AreDrawn seed 0 step (asked_under m e state step)) c.in-Some.is c.in_ok-chosen.ensures.drawn in
    let goes = subst (λ (o : Option (List Value)). GoesOn spec m.turns script (c.from.result + 1) (shape_in m) state o) c.in-Some-2.is c.in_ok-next.ensures in
    let leads = subst (λ (k : ℕ). IsStep spec m.turns script (k + 1) A B) c.from.ensures goes.1 in
    let silent = some c.in_ok-chosen.field-0 c.in-Some.chosen (λ (chosen : Bool). chosen ≡ false → IsSilent spec m.turns A) c.in-Some.is c.in_ok-chosen.ensures.silent c.if-not-chosen.true in
    let same : B ≡ A = ap (state_of (shape_in m)) (sym (c.is_same_state.ensures.same c.if-is_same_state.true)) in
    record {
      limited = omega (arith, c.loop-done-test.true);
      so_far = drawn_more m seed d e done state adds i.count i.after i.drawn right are;
      whole = inr (inr (inr
          (still_after spec m.turns script done A B (c.run_laws.ensures spec m.turns script) (still_there spec m.turns d e done A adds i.count i.after) leads same silent)));
    }

pub loop-done-preserved : goal.loop-done-preserved
loop-done-preserved c =
    let m = c.args.specified.now in
    let spec = specification_in m in
    let seed = c.args.seed in
    let i = c.loop-done.invariant in
    let d = c.loop-done.draft in
    let e = c.settle_step.new.draft in
    let script = exactly (draft_lines e) in
    let done = c.loop-done.done in
    let state = c.loop-done.state in
    let A = state_of (shape_in m) state in
    let B = state_of (shape_in m) c.in-Some-2.next in
    let adds = c.in_ok-chosen.ensures.adds in
    let right = sym c.is_right.ensures ∙ c.if-not-is_right.false in
    let step = length e.steps.items in
    let are = some c.in_ok-chosen.field-0 c.in-Some.chosen (λ (chosen : Bool). AreDrawn seed 0 step (asked_under m e state step)) c.in-Some.is c.in_ok-chosen.ensures.drawn in
    let goes = subst (λ (o : Option (List Value)). GoesOn spec m.turns script (c.from.result + 1) (shape_in m) state o) c.in-Some-2.is c.in_ok-next.ensures in
    let leads = subst (λ (k : ℕ). IsStep spec m.turns script (k + 1) A B) c.from.ensures goes.1 in
    record {
      kept = goes.0;
      count = grown_longer d e done adds i.count;
      after = (c.run_laws.ensures spec m.turns script).more done A B (still_there spec m.turns d e done A adds i.count i.after) leads;
      drawn = drawn_more m seed d e done state adds i.count i.after i.drawn right are;
    }
