use Rattle.std.proofs.Common.{◌≡◌, ◌∙◌, ◌+◌, ◌-◌, ◌++◌, ◌∷◌, [], List, length, Option, Some, None, Vec, Global, ap, subst, sym}
use Rattle.std.proofs.lemmas.List.{map_push}
use Rattle.asm_state.specs.Signature.{Shape, count_of, initial_state, state_of}
use Rattle.asm_state.specs.declared.value.Value.{Value}
use Rattle.asm_syntax.specs.code.Views.{spec_of}
use Rattle.asm_check.specs.Shapes.{shape_of}
use Rattle.asm_meaning.specs.Declarations.{specification_of}
use Rattle.asm_explore.specs.declared.choices.choice_point.ChoicePoint.{ChoicePoint}
use Rattle.asm_explore.specs.ChoicePoints.{choices_of}
use Rattle.asm_explore.specs.code.AskedPieces.{all_said}
use Rattle.asm_explore.specs.code.StepLeads.{LeadsTo}
use Rattle.asm_explore.specs.code.ReachedStates.{steps_from}
use Rattle.asm_explore.specs.RunChoices.{asked_from, choices_made, chosen_from, from_step}
use Rattle.asm_explore.proofs.ChoiceLemmas.RunSteps.{said_choices, situation, steps_begin, steps_made, steps_on, steps_end}
use Rattle.asm_explore.proofs.choices.made_choices.made_by_run.Goals as goal
use Rattle.std.specs.Prelude.{IfSome}

pub loop-done-init : goal.loop-done-init
loop-done-init g c =
    let a = c.args in
    let s = spec_of a.checked.now.spec in
    let shape = shape_of s in
    let same = c.signature.ensures in
    let its = chosen_from (specification_of s) a.turns in
    let begin : state_of shape c.in_ok-state.state ≡ (specification_of s).initial = subst (λ (sh : Shape). state_of sh c.in_ok-state.state ≡ initial_state sh) same c.in_ok-state.ensures.initial in
    record {
      whole = c.in_ok-state.ensures.whole ∙ ap count_of same;
      made = ap (λ all. steps_made all ++ from_step (specification_of s) a.turns its (g.P.Picks.script a.script.now) (a.steps - 0) (0 + 1) (state_of shape c.in_ok-state.state)) c.new-all.ensures.items
          ∙ steps_begin (specification_of s) a.turns its (g.P.Picks.script a.script.now) shape a.steps (state_of shape c.in_ok-state.state) begin;
    }

pub returns-in-None : goal.returns-in-None
returns-in-None g c =
    let a = c.args in
    let s = spec_of a.checked.now.spec in
    let shape = shape_of s in
    let script = g.P.Picks.script a.script.now in
    let its = chosen_from (specification_of s) a.turns in
    let l = c.loop-done in
    let A = state_of shape l.state in
    let one = choices_made c.in_ok-made.made.items in
    let at_step : situation (specification_of s) a.turns its script shape (c.from.result + 1) ≡ situation (specification_of s) a.turns its script shape (l.done + 1) =
    ap (λ n. situation (specification_of s) a.turns its script shape (n + 1)) c.from.ensures in
    let pushed : steps_made c.push.new.self.items ≡ steps_made l.all.items ++ one ∷ [] =
    ap steps_made c.in_ok-push.ensures.items ∙ map_push (λ (asked : Vec ChoicePoint Global). choices_made asked.items) l.all.items c.in_ok-made.made in
    let is : one ≡ its A (situation (specification_of s) a.turns its script shape (l.done + 1)) =
    c.in_ok-made.ensures ∙ ap choices_made c.as_slice.ensures.value ∙ sym (said_choices c.make_step.new.asked.items)
    ∙ ap choices_of (c.in_ok-next.ensures.asked ∙ ap (λ xs. all_said xs ++ asked_from (specification_of s) a.turns A (situation (specification_of s) a.turns its script shape (c.from.result + 1))) c.new-asked.ensures.items)
    ∙ ap (its A) at_step in
    let leads = subst (λ q. LeadsTo shape A (steps_from (specification_of s) a.turns A q) None) at_step
    (subst (LeadsTo shape A (steps_from (specification_of s) a.turns A (situation (specification_of s) a.turns its script shape (c.from.result + 1)))) c.in-None.is c.in_ok-next.ensures.leads) in
    pushed ∙ steps_end (specification_of s) a.turns its script shape a.steps l.done A (steps_made l.all.items) one c.loop-done-test.true is leads
    ∙ l.invariant.made

pub loop-done-preserved : goal.loop-done-preserved
loop-done-preserved g c =
    let a = c.args in
    let s = spec_of a.checked.now.spec in
    let shape = shape_of s in
    let script = g.P.Picks.script a.script.now in
    let its = chosen_from (specification_of s) a.turns in
    let l = c.loop-done in
    let A = state_of shape l.state in
    let one = choices_made c.in_ok-made.made.items in
    let at_step : situation (specification_of s) a.turns its script shape (c.from.result + 1) ≡ situation (specification_of s) a.turns its script shape (l.done + 1) =
    ap (λ n. situation (specification_of s) a.turns its script shape (n + 1)) c.from.ensures in
    let pushed : steps_made c.push.new.self.items ≡ steps_made l.all.items ++ one ∷ [] =
    ap steps_made c.in_ok-push.ensures.items ∙ map_push (λ (asked : Vec ChoicePoint Global). choices_made asked.items) l.all.items c.in_ok-made.made in
    let is : one ≡ its A (situation (specification_of s) a.turns its script shape (l.done + 1)) =
    c.in_ok-made.ensures ∙ ap choices_made c.as_slice.ensures.value ∙ sym (said_choices c.make_step.new.asked.items)
    ∙ ap choices_of (c.in_ok-next.ensures.asked ∙ ap (λ xs. all_said xs ++ asked_from (specification_of s) a.turns A (situation (specification_of s) a.turns its script shape (c.from.result + 1))) c.new-asked.ensures.items)
    ∙ ap (its A) at_step in
    let leads = subst (λ q. LeadsTo shape A (steps_from (specification_of s) a.turns A q) (Some c.in-Some.later)) at_step
    (subst (LeadsTo shape A (steps_from (specification_of s) a.turns A (situation (specification_of s) a.turns its script shape (c.from.result + 1)))) c.in-Some.is c.in_ok-next.ensures.leads) in
    record {
      whole = subst (λ (o : Option (List Value)). IfSome o (λ (B : List Value). length B ≡ count_of shape)) c.in-Some.is c.in_ok-next.ensures.whole;
      made = ap (λ xs. xs ++ from_step (specification_of s) a.turns its script (a.steps - (l.done + 1)) (l.done + 1 + 1) (state_of shape c.in-Some.later)) pushed
          ∙ steps_on (specification_of s) a.turns its script shape a.steps l.done A c.in-Some.later (steps_made l.all.items) one c.loop-done-test.true is leads
          ∙ l.invariant.made;
    }
