use Rattle.std.proofs.Common.{◌≡◌, ◌∙◌, ap, sym, subst}
use Rattle.std.specs.Prelude.{OnOk}
use Rattle.asm_state.specs.code.Contents.{IsStateOf}
use Rattle.asm_state.specs.Signature.{Shape, count_of, state_of}
use Rattle.asm_state.specs.Updates.{IsConsistent, IsFirstFault, fire}
use Rattle.asm_updates.specs.Faults.{fault_of}
use Rattle.asm_updates.specs.code.Stands.{Stands}
use Rattle.asm_meaning.specs.Does.{Outcome}
use Rattle.asm_eval.specs.code.FormedOutcomes.{IsSet}
use Rattle.asm_step.specs.code.Steps.{shape_in, step_in}
use Rattle.asm_step.proofs.Steps.{faulty_ends}
use Rattle.asm_step.proofs.step.make_step.Goals as goal

pub returns-in-Some : goal.returns-in-Some
returns-in-Some g c =
    let m = c.args.resolved.now in
    let formed = c.form_step.new.forming in
    let o : Outcome = step_in m (g.P.Picks.script c.args.choices.now.script.now) c.args.choices.now.step c.args.state.now in
    let is : IsSet (shape_in m) o formed.set formed.instances = subst (λ r. OnOk r (IsSet (shape_in m) o formed.set formed.instances)) c.in-Ok.is c.form_step.ensures.formed in
    let first = c.in-Some.ensures.first is.set (subst (λ (sh : Shape). Stands sh formed.set is.set) (sym c.signature-signature.ensures) is.stands) in
    (is.set, is.gives, faulty_ends is.set _ first, subst (λ (sh : Shape). IsFirstFault is.set (fault_of sh c.in-Some.fault)) c.signature-signature.ensures first)

pub returns : goal.returns
returns g c =
    let m = c.args.resolved.now in
    let formed = c.form_step.new.forming in
    let o : Outcome = step_in m (g.P.Picks.script c.args.choices.now.script.now) c.args.choices.now.step c.args.state.now in
    let is : IsSet (shape_in m) o formed.set formed.instances = subst (λ r. OnOk r (IsSet (shape_in m) o formed.set formed.instances)) c.in-Ok.is c.form_step.ensures.formed in
    let signature = c.signature-signature.result.now in
    let same = c.signature-signature.ensures in
    let U = is.set in
    let stands : Stands signature formed.set U = subst (λ (sh : Shape). Stands sh formed.set U) (sym same) is.stands in
    let good : IsConsistent U = c.in_default.ensures.consistent U stands in (
      c.in_ok-next.ensures.whole ∙ ap count_of same,
      (λ old. subst (λ (sh : Shape). IsStateOf sh c.in_ok-next.next) same (c.in_ok-next.ensures.state U stands good (subst (λ (sh : Shape). IsStateOf sh c.args.state.now) (sym same) old))),
      U,
      is.gives,
      good,
      subst (λ (sh : Shape). state_of sh c.in_ok-next.next ≡ fire (state_of sh c.args.state.now) U) same (c.in_ok-next.ensures.fired U stands good),
    )
