use Rattle.std.proofs.Common.{◌≡◌, ◌+◌, [], ◌∷◌, drop, ap, sym, subst, ◌∙◌}
use Rattle.std.specs.Prelude.{map, ◌++◌}
use Rattle.std.proofs.lemmas.List.{drop_more, drop_all, append-nil}
use Rattle.asm_check.specs.code.cycles.StepsOfBody.{stepping_to}
use Rattle.asm_check.specs.code.names.Tables.{text_at}
use Rattle.asm_check.specs.code.uses.UseViews.{use_of}
use Rattle.asm_check.proofs.CycleLemmas.StepsCollected.{AreSteps, no_step_yet, step_taken, step_left}
use Rattle.asm_check.proofs.cycles.declaration_bodies.positions.Goals as goal
use Rattle.asm_check.proofs.cycles.declaration_bodies.positions.Goals.{in-Some+in_ok-push, in_default}

pub loop-used-init : goal.loop-used-init
loop-used-init c = no_step_yet c.args.names.now c.args.in_rule c.args.uses.now _ c.new-positions.ensures.items

pub loop-used-preserved : goal.loop-used-preserved
loop-used-preserved c =
    let x = c.used-item.result in
    let uses = c.args.uses.now in
    let entries = c.args.names.now in
    let i = c.loop-used.used-index in
    let left : drop i uses ≡ x ∷ drop (i + 1) uses = drop_more uses i x c.loop-used-test.true ∙ ap (λ y. y ∷ drop (i + 1) uses) (sym c.used-item.is) in
    elim c.match-step.branch [
      | in-Some+in_ok-push w ↦
          subst (AreSteps entries c.args.in_rule uses (drop (i + 1) uses)) (sym (ap (λ v. v.items) w.positions-is ∙ w.in_ok-push.ensures.items))
          (step_taken entries c.args.in_rule uses _ _ _ x left c.loop-used.invariant w.in-Some.position w.in-Some.ensures.within w.in-Some.ensures.name w.in-Some.ensures.step)
      | in_default w ↦
          subst (AreSteps entries c.args.in_rule uses (drop (i + 1) uses)) (sym (ap (λ v. v.items) w.positions-is))
          (step_left entries c.args.in_rule uses _ _ _ x left c.loop-used.invariant w.in_default.ensures.step)
    ]

pub returns : goal.returns
returns c =
    let uses = c.args.uses.now in
    let entries = c.args.names.now in
    let none : drop c.loop-used.used-index uses ≡ [] = drop_all c.loop-used.used-index uses c.loop-used-test.false in
    record {
      within = c.loop-used.invariant.within;
      steps = λ spec table.
          sym (append-nil (map (text_at entries) c.loop-used.positions.items))
          ∙ ap (λ us. map (text_at entries) c.loop-used.positions.items ++ stepping_to spec c.args.in_rule (map use_of us)) (sym none)
          ∙ c.loop-used.invariant.steps spec table;
    }
