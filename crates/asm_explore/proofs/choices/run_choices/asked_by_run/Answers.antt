use Rattle.std.proofs.Common.{◌≡◌, ◌∙◌, ◌+◌, ◌-◌, ◌++◌, ◌∷◌, [], List, length, map, Option, Some, None, Vec, Global, ap, subst}
use Rattle.std.proofs.lemmas.List.{map_push}
use Rattle.asm_state.specs.Signature.{Shape, count_of, initial_state, state_of}
use Rattle.asm_state.specs.declared.value.Value.{Value}
use Rattle.asm_syntax.specs.code.Views.{spec_of}
use Rattle.asm_check.specs.Shapes.{shape_of}
use Rattle.asm_meaning.specs.Declarations.{specification_of}
use Rattle.asm_explore.specs.declared.choices.choice_point.ChoicePoint.{ChoicePoint}
use Rattle.asm_explore.specs.code.AskedPieces.{all_said}
use Rattle.asm_explore.specs.code.StepLeads.{LeadsTo}
use Rattle.asm_explore.specs.code.ReachedStates.{steps_from}
use Rattle.asm_explore.specs.RunChoices.{asked_from, from_step}
use Rattle.asm_explore.proofs.ChoiceLemmas.RunSteps.{situation, steps_begin, steps_on, steps_end}
use Rattle.asm_explore.proofs.choices.run_choices.asked_by_run.Goals as goal
use Rattle.std.specs.Prelude.{IfSome}

pub loop-done-init : goal.loop-done-init
loop-done-init g c =
    let a = c.args in
    let s = spec_of a.checked.now.spec in
    let shape = shape_of s in
    let same = c.signature.ensures in
    let its = asked_from (specification_of s) a.turns in
    let begin : state_of shape c.in_ok-state.state ≡ (specification_of s).initial = subst (λ (sh : Shape). state_of sh c.in_ok-state.state ≡ initial_state sh) same c.in_ok-state.ensures.initial in
    record {
      whole = c.in_ok-state.ensures.whole ∙ ap count_of same;
      asked = ap (λ all. map (λ (asked : Vec ChoicePoint Global). all_said asked.items) all ++ from_step (specification_of s) a.turns its (g.P.Picks.script a.script.now) (a.steps - 0) (0 + 1) (state_of shape c.in_ok-state.state)) c.new-all.ensures.items
          ∙ steps_begin (specification_of s) a.turns its (g.P.Picks.script a.script.now) shape a.steps (state_of shape c.in_ok-state.state) begin;
    }

pub returns-in-None : goal.returns-in-None
returns-in-None g c =
    let a = c.args in
    let s = spec_of a.checked.now.spec in
    let shape = shape_of s in
    let script = g.P.Picks.script a.script.now in
    let its = asked_from (specification_of s) a.turns in
    let l = c.loop-done in
    let A = state_of shape l.state in
    let one = all_said c.make_step.new.asked.items in
    let at_step : situation (specification_of s) a.turns its script shape (c.from.result + 1) ≡ situation (specification_of s) a.turns its script shape (l.done + 1) =
    ap (λ n. situation (specification_of s) a.turns its script shape (n + 1)) c.from.ensures in
    let pushed : map (λ (asked : Vec ChoicePoint Global). all_said asked.items) c.push.new.self.items ≡ map (λ (asked : Vec ChoicePoint Global). all_said asked.items) l.all.items ++ one ∷ [] =
    ap (map (λ (asked : Vec ChoicePoint Global). all_said asked.items)) c.in_ok-push.ensures.items ∙ map_push (λ (asked : Vec ChoicePoint Global). all_said asked.items) l.all.items c.make_step.new.asked in
    let is : one ≡ its A (situation (specification_of s) a.turns its script shape (l.done + 1)) =
    c.in_ok-next.ensures.asked ∙ ap (λ xs. all_said xs ++ its A (situation (specification_of s) a.turns its script shape (c.from.result + 1))) c.new-asked.ensures.items ∙ ap (its A) at_step in
    let leads = subst (λ q. LeadsTo shape A (steps_from (specification_of s) a.turns A q) None) at_step
    (subst (LeadsTo shape A (steps_from (specification_of s) a.turns A (situation (specification_of s) a.turns its script shape (c.from.result + 1)))) c.in-None.is c.in_ok-next.ensures.leads) in
    pushed ∙ steps_end (specification_of s) a.turns its script shape a.steps l.done A (map (λ (asked : Vec ChoicePoint Global). all_said asked.items) l.all.items) one c.loop-done-test.true is leads
    ∙ l.invariant.asked

pub loop-done-preserved : goal.loop-done-preserved
loop-done-preserved g c =
    let a = c.args in
    let s = spec_of a.checked.now.spec in
    let shape = shape_of s in
    let script = g.P.Picks.script a.script.now in
    let its = asked_from (specification_of s) a.turns in
    let l = c.loop-done in
    let A = state_of shape l.state in
    let one = all_said c.make_step.new.asked.items in
    let at_step : situation (specification_of s) a.turns its script shape (c.from.result + 1) ≡ situation (specification_of s) a.turns its script shape (l.done + 1) =
    ap (λ n. situation (specification_of s) a.turns its script shape (n + 1)) c.from.ensures in
    let pushed : map (λ (asked : Vec ChoicePoint Global). all_said asked.items) c.push.new.self.items ≡ map (λ (asked : Vec ChoicePoint Global). all_said asked.items) l.all.items ++ one ∷ [] =
    ap (map (λ (asked : Vec ChoicePoint Global). all_said asked.items)) c.in_ok-push.ensures.items ∙ map_push (λ (asked : Vec ChoicePoint Global). all_said asked.items) l.all.items c.make_step.new.asked in
    let is : one ≡ its A (situation (specification_of s) a.turns its script shape (l.done + 1)) =
    c.in_ok-next.ensures.asked ∙ ap (λ xs. all_said xs ++ its A (situation (specification_of s) a.turns its script shape (c.from.result + 1))) c.new-asked.ensures.items ∙ ap (its A) at_step in
    let leads = subst (λ q. LeadsTo shape A (steps_from (specification_of s) a.turns A q) (Some c.in-Some.later)) at_step
    (subst (LeadsTo shape A (steps_from (specification_of s) a.turns A (situation (specification_of s) a.turns its script shape (c.from.result + 1)))) c.in-Some.is c.in_ok-next.ensures.leads) in
    record {
      whole = subst (λ (o : Option (List Value)). IfSome o (λ (B : List Value). length B ≡ count_of shape)) c.in-Some.is c.in_ok-next.ensures.whole;
      asked = ap (λ xs. xs ++ from_step (specification_of s) a.turns its script (a.steps - (l.done + 1)) (l.done + 1 + 1) (state_of shape c.in-Some.later)) pushed
          ∙ steps_on (specification_of s) a.turns its script shape a.steps l.done A c.in-Some.later (map (λ (asked : Vec ChoicePoint Global). all_said asked.items) l.all.items) one c.loop-done-test.true is leads
          ∙ l.invariant.asked;
    }
