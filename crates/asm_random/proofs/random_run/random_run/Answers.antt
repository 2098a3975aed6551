use Rattle.std.proofs.Common.{◌≡◌, ◌∙◌, ◌+◌, ◌≤◌, ℕ, true, List, Ok, Err, refl, sym, ap, subst, length, arith, inl, inr, Vec, Global}
use Rattle.std.specs.BTreeMap.{BTreeMap}
use Rattle.std.specs.Prelude.{IfOk, IfErr, Result}
use Rattle.std.proofs.lemmas.Bool.{false≢true}
use Rattle.asm_state.specs.code.Contents.{IsStateOf}
use Rattle.asm_state.specs.Signature.{state_of}
use Rattle.asm_reader.specs.ExactLines.{exactly}
use Rattle.asm_random.specs.code.Drafts.{draft_lines}
use Rattle.asm_random.specs.FineRuns.{MayEnd}
use Rattle.asm_meaning.specs.Run.{IsStep}
use Rattle.asm_random.specs.code.WrongSteps.{GoesWrong}
use Rattle.asm_random.specs.code.ResolvedRuns.{IsDead, IsPassed, crowds_in, rests_in, right_in, shape_in, specification_in}
use Rattle.asm_random.specs.declared.position.Position.{Position}
use Rattle.asm_random.proofs.DraftRuns.{fine_grown, grown_longer}
use Rattle.asm_random.proofs.QuietSteps.{alike_quiet}
use Rattle.asm_random.proofs.RunsSoFar.{IsFineTo, fine_first, fine_next, fine_run, fine_wrong}
use Rattle.asm_random.proofs.random_run.random_run.Goals as goal

ok : {X E : Type 0} (r : Result X E) (x : X) (P : X → Type 0) → r ≡ Ok x → IfOk r P → P x
ok r x P is h = subst (λ it. IfOk it P) is h

err : {X E : Type 0} (r : Result X E) (e : E) (P : E → Type 0) → r ≡ Err e → IfErr r P → P e
err r e P is h = subst (λ it. IfErr it P) is h

pub loop-done-init : goal.loop-done-init
loop-done-init c =
    let m = c.args.specified.now in
    record {
      kept = c.in_ok-at.ensures.kept;
      drawn = ap (λ (ms : List (BTreeMap (Vec ℕ Global) ℕ)). length ms) c.new-draft.ensures;
      fine = fine_first (specification_in m) m.turns (crowds_in m) (right_in m) (rests_in m) (exactly (draft_lines c.new-draft.result)) (state_of (shape_in m) c.in_ok-at.at.state)
          c.in_ok-at.ensures.initial c.requires.right;
      looked = λ stays. absurd (false≢true (sym c.in_ok-at.ensures.fresh ∙ stays));
    }

pub loop-done-preserved : goal.loop-done-preserved
loop-done-preserved c =
    let m = c.args.specified.now in
    let shape = shape_in m in
    let spec = specification_in m in
    let i = c.loop-done.invariant in
    let d = c.loop-done.draft in
    let e = c.draw_step.new.draft in
    let script = exactly (draft_lines e) in
    let done = c.loop-done.done in
    let old = state_of shape c.loop-done.at.state in
    let next = c.in-Ok.next in
    let new = state_of shape next.state in
    let ended = c.in_ok-next in
    let leads = ok ended.field-0 next (λ (next : Position). IsStep spec m.turns script (c.from.result + 1) old (state_of shape next.state)) c.in-Ok.is ended.ensures.step.leads in
    let step = subst (λ (k : ℕ). IsStep spec m.turns script (k + 1) old new) c.from.ensures leads in
    let right = ok ended.field-0 next (λ (next : Position). right_in m (state_of shape next.state) ≡ true) c.in-Ok.is ended.ensures.right in
    let passed = ok ended.field-0 next (λ (next : Position). IsPassed m old) c.in-Ok.is (ended.ensures.passed i.looked) in
    let same = ok ended.field-0 next (λ (next : Position). next.stays ≡ true → next.state ≡ c.loop-done.at.state) c.in-Ok.is ended.ensures.stays in
    let grown = fine_grown spec m.turns (crowds_in m) (right_in m) (rests_in m) d e done old c.in_ok-chosen.ensures.adds i.drawn i.fine in
    record {
      kept = ok ended.field-0 next (λ (next : Position). IsStateOf shape next.state) c.in-Ok.is ended.ensures.step.kept;
      drawn = grown_longer d e done c.in_ok-chosen.ensures.adds i.drawn;
      fine = fine_next spec m.turns (crowds_in m) (right_in m) (rests_in m) script done old grown (c.run_laws.ensures spec m.turns script) new step right passed;
      looked = λ stays. subst (IsPassed m) (ap (state_of shape) (sym (same stays))) passed;
    }

pub returns-in-Err-clause-wrong : goal.returns-in-Err-clause-wrong
returns-in-Err-clause-wrong c =
    let m = c.args.specified.now in
    let spec = specification_in m in
    let i = c.loop-done.invariant in
    let d = c.loop-done.draft in
    let e = c.draw_step.new.draft in
    let script = exactly (draft_lines e) in
    let done = c.loop-done.done in
    let old = state_of (shape_in m) c.loop-done.at.state in
    let grown = fine_grown spec m.turns (crowds_in m) (right_in m) (rests_in m) d e done old c.in_ok-chosen.ensures.adds i.drawn i.fine in
    let wrong = err c.in_ok-next.field-0 c.in-Err.fault (GoesWrong spec m.turns script (right_in m) (IsDead m) (c.from.result + 1) old) c.in-Err.is c.in_ok-next.ensures.step.wrong in
    let numbered = subst (λ (k : ℕ). GoesWrong spec m.turns script (right_in m) (IsDead m) (k + 1) old c.in-Err.fault) c.from.ensures wrong in
    fine_wrong spec m.turns (crowds_in m) (right_in m) (rests_in m) script done old grown (c.run_laws.ensures spec m.turns script) c.args.steps c.in-Err.fault
    c.loop-done-test.true numbered

pub returns-then-next-clause-fine : goal.returns-then-next-clause-fine
returns-then-next-clause-fine c =
    let m = c.args.specified.now in
    let shape = shape_in m in
    let spec = specification_in m in
    let i = c.loop-done.invariant in
    let d = c.loop-done.draft in
    let e = c.draw_step.new.draft in
    let script = exactly (draft_lines e) in
    let done = c.loop-done.done in
    let old = state_of shape c.loop-done.at.state in
    let next = c.in-Ok.next in
    let new = state_of shape next.state in
    let ended = c.in_ok-next in
    let leads = ok ended.field-0 next (λ (next : Position). IsStep spec m.turns script (c.from.result + 1) old (state_of shape next.state)) c.in-Ok.is ended.ensures.step.leads in
    let step = subst (λ (k : ℕ). IsStep spec m.turns script (k + 1) old new) c.from.ensures leads in
    let right = ok ended.field-0 next (λ (next : Position). right_in m (state_of shape next.state) ≡ true) c.in-Ok.is ended.ensures.right in
    let passed = ok ended.field-0 next (λ (next : Position). IsPassed m old) c.in-Ok.is (ended.ensures.passed i.looked) in
    let stays = ok ended.field-0 next (λ (next : Position). next.stays ≡ true → next.state ≡ c.loop-done.at.state) c.in-Ok.is ended.ensures.stays in
    let same : new ≡ old = ap (state_of shape) (stays c.if-next.true) in
    let grown = fine_grown spec m.turns (crowds_in m) (right_in m) (rests_in m) d e done old c.in_ok-chosen.ensures.adds i.drawn i.fine in
    let laws = c.run_laws.ensures spec m.turns script in
    let there = fine_next spec m.turns (crowds_in m) (right_in m) (rests_in m) script done old grown laws new step right passed in
    let quiet = alike_quiet spec m.turns script (done + 1) old new step same (c.in_ok-chosen.ensures.alike c.if-not-chosen.true) in
    let low : done + 1 ≤ c.args.steps = omega (arith, c.loop-done-test.true) in
    fine_run spec m.turns (crowds_in m) (right_in m) (rests_in m) script (done + 1) new there laws c.args.steps low
    (inr (subst (MayEnd spec m.turns (crowds_in m) (rests_in m)) (sym same) (quiet, passed)))

pub returns-clause-fine : goal.returns-clause-fine
returns-clause-fine c =
    let m = c.args.specified.now in
    let spec = specification_in m in
    let script = exactly (draft_lines c.loop-done.draft) in
    let A = state_of (shape_in m) c.loop-done.at.state in
    let steps = c.args.steps in
    let all : c.loop-done.done ≡ steps = omega (arith, c.loop-done-test.false, c.loop-done.auto.done-end) in
    let here : steps ≤ steps = omega arith in
    fine_run spec m.turns (crowds_in m) (right_in m) (rests_in m) script steps A
    (subst (λ (k : ℕ). IsFineTo spec m.turns (crowds_in m) (right_in m) (rests_in m) script k A) all c.loop-done.invariant.fine)
    (c.run_laws.ensures spec m.turns script) steps here (inl refl)
