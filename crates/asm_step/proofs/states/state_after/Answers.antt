use Rattle.std.proofs.Common.{◌≡◌, ◌∙◌, ◌+◌, ℕ, refl, sym, ap, subst}
use Rattle.asm_state.specs.code.Contents.{IsStateOf}
use Rattle.asm_state.specs.Signature.{Shape, initial_state, state_of}
use Rattle.asm_meaning.specs.Run.{AtExhausted, AtFault, AtLimit, IsStep, step}
use Rattle.asm_step.specs.code.Steps.{Comes, shape_in, specification_in}
use Rattle.asm_step.proofs.states.state_after.Goals as goal

pub loop-done-init : goal.loop-done-init
loop-done-init g c =
    let m = c.args.resolved.now in
    let same = c.signature.ensures in
    record {
      state = subst (λ (sh : Shape). IsStateOf sh c.in_ok-state.state) same c.in_ok-state.ensures.state;
      after = (refl, sym (subst (λ (sh : Shape). state_of sh c.in_ok-state.state ≡ initial_state sh) same c.in_ok-state.ensures.initial));
    }

pub loop-done-preserved : goal.loop-done-preserved
loop-done-preserved g c =
    let m = c.args.resolved.now in
    let script = g.P.Picks.script c.args.script.now in
    let l = c.loop-done in
    let A = state_of (shape_in m) l.state in
    let comes = subst (Comes (shape_in m) (step (specification_in m) m.turns script (c.from.result + 1) A).result l.state) c.in-Next.is c.in_ok-made.ensures in
    let numbered : IsStep (specification_in m) m.turns script (l.done + 1) A (state_of (shape_in m) c.in-Next.next) =
    subst (λ (k : ℕ). IsStep (specification_in m) m.turns script (k + 1) A (state_of (shape_in m) c.in-Next.next)) c.from.ensures (comes.2, comes.3, comes.4, comes.5) in
    record {
      state = comes.1 l.invariant.state;
      after = (c.run_laws.ensures (specification_in m) m.turns script).more l.done A (state_of (shape_in m) c.in-Next.next) l.invariant.after numbered;
    }

pub returns-in-Faulty-clause-ends : goal.returns-in-Faulty-clause-ends
returns-in-Faulty-clause-ends g c =
    let m = c.args.resolved.now in
    let script = g.P.Picks.script c.args.script.now in
    let l = c.loop-done in
    let A = state_of (shape_in m) l.state in
    let comes = subst (Comes (shape_in m) (step (specification_in m) m.turns script (c.from.result + 1) A).result l.state) c.in-Faulty.is c.in_ok-made.ensures in
    let gives = ap (λ k. (step (specification_in m) m.turns script (k + 1) A).result) (sym c.from.ensures) ∙ comes.1 in
    let ended = (c.run_laws.ensures (specification_in m) m.turns script).faulty l.done c.args.steps A comes.0 c.loop-done-test.true l.invariant.after gives comes.2 in
    λ limit. let bad : AtFault (l.done + 1) comes.0 ≡ AtLimit = sym ended.0 ∙ limit in cc

pub returns-in-Exhausted-clause-ends : goal.returns-in-Exhausted-clause-ends
returns-in-Exhausted-clause-ends g c =
    let m = c.args.resolved.now in
    let script = g.P.Picks.script c.args.script.now in
    let l = c.loop-done in
    let A = state_of (shape_in m) l.state in
    let q = c.in-Exhausted.field-0 in
    let comes = subst (Comes (shape_in m) (step (specification_in m) m.turns script (c.from.result + 1) A).result l.state) c.in-Exhausted.is c.in_ok-made.ensures in
    let is = ap (λ k. (step (specification_in m) m.turns script (k + 1) A).result) (sym c.from.ensures) ∙ comes in
    let ended = (c.run_laws.ensures (specification_in m) m.turns script).exhausted l.done c.args.steps A q c.loop-done-test.true l.invariant.after is in
    λ limit. let bad : AtExhausted (l.done + 1) q ≡ AtLimit = sym ended.0 ∙ limit in cc
