use Rattle.std.proofs.Common.{◌≡◌, [], sym, ap, subst, ◌∙◌}
use Rattle.std.proofs.lemmas.Result.{on_ok_weaker}
use Rattle.asm_state.specs.Location.{State}
use Rattle.asm_state.specs.Signature.{Shape, count_of, state_of}
use Rattle.asm_state.specs.Updates.{none}
use Rattle.asm_syntax.specs.code.Views.{spec_of}
use Rattle.asm_check.specs.Faults.{inits}
use Rattle.asm_check.specs.Shapes.{shape_of}
use Rattle.asm_reader.specs.ScriptLines.{pick}
use Rattle.asm_updates.specs.code.Stands.{Stands}
use Rattle.asm_meaning.specs.Declarations.{main_rule, specification_of}
use Rattle.asm_meaning.specs.Does.{Outcome}
use Rattle.asm_meaning.specs.Run.{step}
use Rattle.asm_eval.specs.code.FormedOutcomes.{Forms, IsSet}
use Rattle.asm_eval.specs.code.ShownViews.{shown}
use Rattle.asm_code.specs.code.RuleMeaning.{IsSoundRule, meaning}
use Rattle.asm_code.specs.code.RuleViews.{rule_of}
use Rattle.asm_step.proofs.FormedSet.{formed_alone, stopped_alone}
use Rattle.asm_step.proofs.step.form_step.Goals as goal

pub form-requires-clause-sound : goal.form-requires-clause-sound
form-requires-clause-sound g c =
    subst (λ shape. IsSoundRule shape (rule_of c.args.resolved.now.code.now)) (sym (c.new-view.ensures.parts.0 ∙ c.signature-signature.ensures)) c.requires.main.sound

pub returns : goal.returns
returns g c =
    let m = c.args.resolved.now in
    let s = spec_of m.checked.now.spec in
    let shape = shape_of s in
    let code = rule_of m.code.now in
    let signature = c.signature-signature.result.now in
    let same : signature ≡ shape = c.signature-signature.ensures in
    let viewed : c.new-view.result.signature.now ≡ shape = c.new-view.ensures.parts.0 ∙ same in
    let script = g.P.Picks.script c.args.choices.now.script.now in
    let i = c.args.choices.now.step in
    let A : State = state_of shape c.args.state.now in
    let shows : shown c.new-view.result ≡ A =
    c.new-view.ensures.alone (c.new-nothing.ensures.empty signature c.count.ensures.sound c.count.ensures.count) ∙ ap (λ sh. state_of sh c.args.state.now) same in
    let here : Outcome = meaning c.new-view.result.signature.now m.turns (pick script i) code [] [] (shown c.new-view.result) c.clear.new.self.path.items in
    let yields : here ≡ step (specification_of s) m.turns script i A =
    (λ j. meaning (viewed j) m.turns (pick script i) code [] [] (shows j) (c.clear.ensures.path j))
    ∙ c.resolving_laws.ensures.means s (main_rule s (inits s)) code m.turns script i A [] c.requires.main in
    let counted = c.requires.fits ∙ ap count_of (sym same) in
    record {
      ready = c.form.ensures.ready;
      count = c.form.ensures.formed.count ∙ c.clear.ensures.count;
      formed = on_ok_weaker c.form.result
          (λ forms. subst (λ (o : Outcome). IsSet shape o c.form.new.forming.set c.form.new.forming.instances) yields
          (formed_alone shape here c.clear.new.self.set c.form.new.forming.set c.clear.new.self.instances c.form.new.forming.instances
          (subst (λ (sh : Shape). Stands sh c.clear.new.self.set none) same (c.clear.ensures.empty signature c.count.ensures.sound counted))
          c.clear.ensures.instances
          (subst (λ (sh : Shape). Forms sh here c.clear.new.self.set c.form.new.forming.set c.clear.new.self.instances c.form.new.forming.instances) viewed forms)))
          c.form.ensures.formed.formed;
      path = on_ok_weaker c.form.result (λ same. same ∙ c.clear.ensures.path) c.form.ensures.formed.path;
      exhausted = stopped_alone c.form.result here _ c.form.new.forming.path.items yields c.form.ensures.formed.exhausted;
    }
