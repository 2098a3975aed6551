use Rattle.std.proofs.Common.{◌≡◌, ◌∙◌, ◌+◌, ℕ, ap, arith, refl, subst, sym}
use Rattle.std.specs.Prelude.{IfSome, Some}
use Rattle.asm_state.specs.code.Contents.{IsStateOf}
use Rattle.asm_state.specs.Signature.{Shape, initial_state, state_of}
use Rattle.asm_syntax.specs.code.Views.{spec_of}
use Rattle.asm_meaning.specs.Run.{IsStep, step}
use Rattle.asm_step.specs.code.Steps.{Comes, shape_in, specification_in}
use Rattle.asm_explore_texts.specs.code.CodedConditions.{terms_in}
use Rattle.asm_explore_report.proofs.BrokenRuns.{all_true, ended_by_fault, ended_exhausted, first_found, held_first, held_more, held_past, none_found}
use Rattle.asm_explore_report.proofs.broken_run.broken_by_run.Goals as goal

pub loop-done-init : goal.loop-done-init
loop-done-init g c =
    let m = c.args.resolved.now in
    let same = c.signature.ensures in
    record {
      state = subst (λ (sh : Shape). IsStateOf sh c.in_ok-state.state) same c.in_ok-state.ensures.state;
      after = (refl, sym (subst (λ (sh : Shape). state_of sh c.in_ok-state.state ≡ initial_state sh) same c.in_ok-state.ensures.initial));
      held = λ links joined. held_first (spec_of m.checked.now.spec) (terms_in links) m.turns (g.P.Picks.script c.args.script.now);
    }

pub returns-then-is_some-clause-some : goal.returns-then-is_some-clause-some
returns-then-is_some-clause-some g c links joined =
    let m = c.args.resolved.now in
    let s = spec_of m.checked.now.spec in
    let script = g.P.Picks.script c.args.script.now in
    let l = c.loop-done in
    let A = state_of (shape_in m) l.state in
    first_found s (terms_in links) m.turns script l.done c.args.steps A l.invariant.after (l.invariant.held links joined) c.broken_state.result c.in_ok-told.told
    (omega (arith, c.loop-done-test.true)) c.broken_state.ensures.some (c.in_ok-told.ensures.found links joined)

pub returns-in-Faulty-clause-none : goal.returns-in-Faulty-clause-none
returns-in-Faulty-clause-none g c links joined =
    let m = c.args.resolved.now in
    let s = spec_of m.checked.now.spec in
    let script = g.P.Picks.script c.args.script.now in
    let l = c.loop-done in
    let A = state_of (shape_in m) l.state in
    let comes = subst (Comes (shape_in m) (step (specification_in m) m.turns script (c.from.result + 1) A).result l.state) c.in-Faulty.is c.in_ok-made.ensures in
    let gives = ap (λ k. (step (specification_in m) m.turns script (k + 1) A).result) (sym c.from.ensures) ∙ comes.1 in
    let held = all_true c.in_ok-told.told _ (c.in_ok-told.ensures.all_true links joined) (sym c.if-is_some.ensures) in
    held_past s (terms_in links) m.turns script l.done (c.args.steps + 1)
    (ended_by_fault (specification_in m) m.turns script (c.run_laws.ensures (specification_in m) m.turns script) l.done A l.invariant.after comes.0 gives comes.2)
    (held_more s (terms_in links) m.turns script l.done A l.invariant.after held (l.invariant.held links joined))

pub returns-in-Exhausted-clause-none : goal.returns-in-Exhausted-clause-none
returns-in-Exhausted-clause-none g c links joined =
    let m = c.args.resolved.now in
    let s = spec_of m.checked.now.spec in
    let script = g.P.Picks.script c.args.script.now in
    let l = c.loop-done in
    let A = state_of (shape_in m) l.state in
    let q = c.in-Exhausted.field-0 in
    let comes = subst (Comes (shape_in m) (step (specification_in m) m.turns script (c.from.result + 1) A).result l.state) c.in-Exhausted.is c.in_ok-made.ensures in
    let is = ap (λ k. (step (specification_in m) m.turns script (k + 1) A).result) (sym c.from.ensures) ∙ comes in
    let held = all_true c.in_ok-told.told _ (c.in_ok-told.ensures.all_true links joined) (sym c.if-is_some.ensures) in
    held_past s (terms_in links) m.turns script l.done (c.args.steps + 1)
    (ended_exhausted (specification_in m) m.turns script (c.run_laws.ensures (specification_in m) m.turns script) l.done A l.invariant.after q is)
    (held_more s (terms_in links) m.turns script l.done A l.invariant.after held (l.invariant.held links joined))

pub loop-done-preserved : goal.loop-done-preserved
loop-done-preserved g c =
    let m = c.args.resolved.now in
    let s = spec_of m.checked.now.spec in
    let script = g.P.Picks.script c.args.script.now in
    let l = c.loop-done in
    let A = state_of (shape_in m) l.state in
    let B = state_of (shape_in m) c.in-Next.next in
    let comes = subst (Comes (shape_in m) (step (specification_in m) m.turns script (c.from.result + 1) A).result l.state) c.in-Next.is c.in_ok-made.ensures in
    let numbered : IsStep (specification_in m) m.turns script (l.done + 1) A B =
    subst (λ (k : ℕ). IsStep (specification_in m) m.turns script (k + 1) A B) c.from.ensures (comes.2, comes.3, comes.4, comes.5) in
    record {
      state = comes.1 l.invariant.state;
      after = (c.run_laws.ensures (specification_in m) m.turns script).more l.done A B l.invariant.after numbered;
      held = λ links joined. held_more s (terms_in links) m.turns script l.done A l.invariant.after
          (all_true c.in_ok-told.told _ (c.in_ok-told.ensures.all_true links joined) (sym c.if-is_some.ensures)) (l.invariant.held links joined);
    }

pub returns-clause-some : goal.returns-clause-some
returns-clause-some g c links joined =
    let m = c.args.resolved.now in
    let s = spec_of m.checked.now.spec in
    let script = g.P.Picks.script c.args.script.now in
    let l = c.loop-done in
    let A = state_of (shape_in m) l.state in
    let same : l.done ≡ c.args.steps = omega (arith, c.loop-done-test.false, l.auto.done-end) in
    first_found s (terms_in links) m.turns script l.done c.args.steps A l.invariant.after (l.invariant.held links joined) c.broken_state-2.result c.in_ok-told-2.told
    l.auto.done-end (subst (λ k. IfSome c.broken_state-2.result (λ b. (b.steps ≡ k) × (c.in_ok-told-2.told ≡ Some b.told))) (sym same) c.broken_state-2.ensures.some)
    (c.in_ok-told-2.ensures.found links joined)

pub returns-clause-none : goal.returns-clause-none
returns-clause-none g c links joined =
    let m = c.args.resolved.now in
    let s = spec_of m.checked.now.spec in
    let script = g.P.Picks.script c.args.script.now in
    let l = c.loop-done in
    let A = state_of (shape_in m) l.state in
    let same : l.done ≡ c.args.steps = omega (arith, c.loop-done-test.false, l.auto.done-end) in
    none_found s (terms_in links) m.turns script l.done c.args.steps A l.invariant.after (l.invariant.held links joined) c.broken_state-2.result c.in_ok-told-2.told
    same c.broken_state-2.ensures.none (c.in_ok-told-2.ensures.all_true links joined)
