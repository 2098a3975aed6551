use Rattle.std.proofs.Common.{◌≡◌, ◌+◌, ◌∙◌, ◌<◌, ℕ, refl, sym, ap, subst, arith}
use Rattle.std.specs.Prelude.{OnOk, IfErr}
use Rattle.asm_state.specs.Signature.{Shape, count_of, initial_state, state_of}
use Rattle.asm_syntax.specs.code.Views.{spec_of}
use Rattle.asm_updates.specs.code.Stands.{Stands}
use Rattle.asm_meaning.specs.Does.{Outcome}
use Rattle.asm_meaning.specs.Run.{IsAfter}
use Rattle.asm_eval.specs.code.FormedOutcomes.{IsSet, IsStoppedAt}
use Rattle.asm_meaning.specs.Yields.{Exhausted}
use Rattle.asm_code.specs.code.RuleViews.{rule_of}
use Rattle.asm_step.specs.code.Steps.{shape_in, specification_in, step_in}
use Rattle.asm_clash.proofs.Steps.{goes_on, ends_exhausted, ends_faulty}
use Rattle.asm_clash.proofs.clash.clash_by_code.Goals as goal

pub loop-done-init : goal.loop-done-init
loop-done-init c =
    let same = c.signature-signature.ensures in
    record {
      whole = c.in_ok-state.ensures.whole ∙ ap count_of same;
      fits = c.new-forming.ensures.count ∙ ap count_of same;
      after = (refl, sym (subst (λ (sh : Shape). state_of sh c.in_ok-state.state ≡ initial_state sh) same c.in_ok-state.ensures.initial));
    }

pub fault_number-location-requires : goal.fault_number-location-requires
fault_number-location-requires c =
    let m = c.args.resolved.now in
    let formed = c.form_step.new.forming in
    let o : Outcome = step_in m c.args.script.now (c.from-step.result + 1) c.loop-done.state in
    let is : IsSet (shape_in m) o formed.set formed.instances = subst (λ r. OnOk r (IsSet (shape_in m) o formed.set formed.instances)) c.in-Ok.is c.form_step.ensures.formed in
    let stands = subst (λ (sh : Shape). Stands sh formed.set is.set) (sym c.signature-signature.ensures) is.stands in
    record { first = (is.set, stands, c.in-Some.ensures.first is.set stands) }

pub assignments_at-requires-clause-number : goal.assignments_at-requires-clause-number
assignments_at-requires-clause-number c = subst (λ (sh : Shape). c.fault_number-location.result < count_of sh) c.signature-signature.ensures c.fault_number-location.ensures.in_range

pub returns-in-Err-Exhausted : goal.returns-in-Err-Exhausted
returns-in-Err-Exhausted c =
    let m = c.args.resolved.now in
    let l = c.loop-done in
    let number = c.from-step.result + 1 in
    let o : Outcome = step_in m c.args.script.now number l.state in
    let formed = c.form_step.new.forming in
    let stopped = subst (IsStoppedAt o formed.path.items) c.in-Err-Exhausted.field-0-is (subst (λ r. IfErr r (IsStoppedAt o formed.path.items)) c.in-Err-Exhausted.is c.form_step.ensures.exhausted) in
    ends_exhausted c.resolving_laws.ensures (spec_of m.checked.now.spec) m.turns c.args.script.now (c.run_laws.ensures (specification_in m) m.turns c.args.script.now)
    c.args.steps l.done number (state_of (shape_in m) l.state) (rule_of m.code.now) c.requires
    (ap (λ k. k + 1) c.from-step.ensures) c.loop-done-test.true l.invariant.after c.args.most c.new-path.result (stopped ∙ ap Exhausted (sym c.new-path.ensures))

pub returns-in-Some : goal.returns-in-Some
returns-in-Some c =
    let m = c.args.resolved.now in
    let l = c.loop-done in
    let number = c.from-step.result + 1 in
    let made = c.form_step.new.forming in
    let o : Outcome = step_in m c.args.script.now number l.state in
    ends_faulty c.resolving_laws.ensures (spec_of m.checked.now.spec) m.turns c.args.script.now (c.run_laws.ensures (specification_in m) m.turns c.args.script.now)
    c.args.steps l.done number (state_of (shape_in m) l.state) (rule_of m.code.now) c.requires (ap (λ k. k + 1) c.from-step.ensures) c.loop-done-test.true l.invariant.after
    c.signature-signature.result.now c.signature-signature.ensures made.set made.instances (subst (λ r. OnOk r (IsSet (shape_in m) o made.set made.instances)) c.in-Ok.is c.form_step.ensures.formed)
    c.in-Some.fault c.in-Some.ensures.first c.fault_number-location.result c.fault_number-location.ensures.location c.args.most c.in_ok-found.found c.in_ok-found.ensures

pub loop-done-preserved : goal.loop-done-preserved
loop-done-preserved c =
    let m = c.args.resolved.now in
    let shape = shape_in m in
    let l = c.loop-done in
    let number = c.from-step.result + 1 in
    let o : Outcome = step_in m c.args.script.now number l.state in
    let formed = c.form_step.new.forming in
    let is : IsSet shape o formed.set formed.instances = subst (λ r. OnOk r (IsSet shape o formed.set formed.instances)) c.in-Ok.is c.form_step.ensures.formed in
    let good = c.in_default.ensures.consistent is.set (subst (λ (sh : Shape). Stands sh formed.set is.set) (sym c.signature-signature.ensures) is.stands) in
    record {
      whole = c.fire_into.ensures.len ∙ l.invariant.whole;
      fits = c.form_step.ensures.count ∙ l.invariant.fits;
      after = goes_on c.resolving_laws.ensures (spec_of m.checked.now.spec) m.turns c.args.script.now (c.run_laws.ensures (specification_in m) m.turns c.args.script.now)
          c.args.steps l.done number (state_of shape l.state) (rule_of m.code.now) c.requires
          (ap (λ k. k + 1) c.from-step.ensures) c.loop-done-test.true l.invariant.after is.set (state_of shape c.fire_into.new.state) is.gives good
          (c.fire_into.ensures.fired shape is.set is.stands good);
    }

pub returns : goal.returns
returns c =
    let m = c.args.resolved.now in
    let all : c.loop-done.done ≡ c.args.steps = omega (arith, c.loop-done-test.false, c.loop-done.auto.done-end) in
    (subst (λ (k : ℕ). IsAfter (specification_in m) m.turns c.args.script.now k (state_of (shape_in m) c.loop-done.state)) all c.loop-done.invariant.after).0
