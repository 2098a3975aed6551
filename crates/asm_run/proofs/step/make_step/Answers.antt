use Rattle.std.proofs.Common.{◌≡◌, ℕ, List, ◌++◌, refl, sym, ap, subst, ◌∙◌}
use Rattle.std.specs.Prelude.{OnOk}
use Rattle.asm_state.specs.Updates.{UpdateSet}
use Rattle.asm_syntax.specs.code.Views.{spec_of}
use Rattle.asm_check.specs.Shapes.{shape_of}
use Rattle.asm_updates.specs.code.Stands.{Stands}
use Rattle.asm_updates.proofs.StandingLaws.{standing_laws}
use Rattle.asm_meaning.specs.Does.{Outcome}
use Rattle.asm_eval.specs.code.FormedOutcomes.{IsSet}
use Rattle.asm_run.specs.code.Step.{EndsBy, main_outcome}
use Rattle.asm_run.specs.Written.{step_line}
use Rattle.asm_run.specs.code.WrittenEntries.{entries_text}
use Rattle.asm_run.proofs.TextLemmas.StepText.{set_written, step_written}
use Rattle.asm_run.proofs.step.make_step.Goals as goal

pub end_at_fault-requires : goal.end_at_fault-requires
end_at_fault-requires g c =
    let s = spec_of c.args.resolved.now.checked.now.spec in
    let made = c.form_step.new.forming in
    let o : Outcome = main_outcome s c.args.resolved.now.turns (g.P.Picks.script c.args.choices.now.script.now) c.args.choices.now.step c.args.state.now in
    let formed : IsSet (shape_of s) o made.set made.instances = subst (λ r. OnOk r (IsSet (shape_of s) o made.set made.instances)) c.in-Ok.is c.form_step.ensures.formed in
    (formed.set, c.in-Some.ensures.first formed.set (subst (λ v. Stands v made.set formed.set) (sym c.signature-signature.ensures) formed.stands))

pub returns-in-Some-clause-stopped : goal.returns-in-Some-clause-stopped
returns-in-Some-clause-stopped g c =
    let s = spec_of c.args.resolved.now.checked.now.spec in
    let made = c.form_step.new.forming in
    let o : Outcome = main_outcome s c.args.resolved.now.turns (g.P.Picks.script c.args.choices.now.script.now) c.args.choices.now.step c.args.state.now in
    let formed : IsSet (shape_of s) o made.set made.instances = subst (λ r. OnOk r (IsSet (shape_of s) o made.set made.instances)) c.in-Ok.is c.form_step.ensures.formed in
    let first = c.in-Some.ensures.first formed.set (subst (λ v. Stands v made.set formed.set) (sym c.signature-signature.ensures) formed.stands) in
    (subst (λ r. EndsBy c.args.choices.now.step r c.in_ok-end.end) (sym formed.gives) (c.in_ok-end.ensures formed.set first), refl)

pub returns-clause-fired : goal.returns-clause-fired
returns-clause-fired g c =
    let s = spec_of c.args.resolved.now.checked.now.spec in
    let good = c.args.resolved.now.checked.now.well_formed in
    let step = c.args.choices.now.step in
    let made = c.form_step.new.forming in
    let o : Outcome = main_outcome s c.args.resolved.now.turns (g.P.Picks.script c.args.choices.now.script.now) step c.args.state.now in
    let formed : IsSet (shape_of s) o made.set made.instances = subst (λ r. OnOk r (IsSet (shape_of s) o made.set made.instances)) c.in-Ok.is c.form_step.ensures.formed in
    let U : UpdateSet = formed.set in
    let sorted : Stands (shape_of s) c.sort.new.self U = standing_laws.alike (shape_of s) made.set c.sort.new.self U c.in_ok-sort.ensures.count c.in_ok-sort.ensures.mark c.in_ok-sort.ensures.entries formed.stands in
    let consistent = c.in_default.ensures.consistent U (subst (λ v. Stands v made.set U) (sym c.signature-signature.ensures) formed.stands) in
    let text : List ℕ = step_line step made.instances ++ entries_text s c.sort.new.self.ranges in
    let pushed : c.push_step.new.out.items ≡ c.clear.new.self.items ++ text = c.in_ok-push_step.ensures.text in
    let lines = set_written s c.sort.new.self U good sorted consistent c.in_ok-sort.ensures.sound c.in_ok-sort.ensures.rising in
    record {
      set = U;
      gives = formed.gives;
      consistent = consistent;
      fired = c.fire_into.ensures.fired (shape_of s) U sorted consistent;
      written = pushed ∙ ap (λ (w : List ℕ). w ++ text) c.clear.ensures.items ∙ step_written s c.sort.new.self U step made.instances o.instances formed.counts lines;
    }
