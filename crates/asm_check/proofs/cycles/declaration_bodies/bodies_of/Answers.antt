use Rattle.std.proofs.Common.{◌≡◌, ◌<◌, ◌≤◌, ◌+◌, [], ◌∷◌, ◌++◌, Some, length, take, drop, map, ap, refl, sym, subst, ◌∙◌, arith}
use Rattle.std.specs.Prelude.{All}
use Rattle.std.proofs.lemmas.List.{map-append, length-map, append-nil, take_all}
use Rattle.std.proofs.Math.ListN.{drop_of_length-le}
use Rattle.asm_syntax.specs.code.Views.{spec_of}
use Rattle.asm_check.specs.code.uses.RulesWithResult.{is_with_result}
use Rattle.asm_check.specs.code.cycles.Graph.{step_lists}
use Rattle.asm_check.specs.Names.{has_result_in_body}
use Rattle.asm_check.specs.code.cycles.StepsOfBody.{onward_from}
use Rattle.asm_check.specs.code.names.Tables.{declared_as_view, text_at}
use Rattle.asm_check.proofs.CycleLemmas.StepsCollected.{AreEntrySteps, no_entry_yet, entry_at, entry_taken, onward_at}
use Rattle.asm_check.proofs.cycles.declaration_bodies.bodies_of.Goals as goal

pub loop-i-init : goal.loop-i-init
loop-i-init c = record {
  steps = no_entry_yet (spec_of c.args.spec.now) c.args.names.now c.args.names.now _ (ap step_lists c.new-steps.ensures.items) refl;
  answering = c.new-with_result.ensures.items;
}

pub loop-i-preserved : goal.loop-i-preserved
loop-i-preserved c =
    let spec = spec_of c.args.spec.now in
    let entries = c.args.names.now in
    let i = c.loop-i.i in
    let at = entry_at entries i c.declared_at-declared.result c.declared_at-declared.ensures in
    let body = c.in_ok-body.body in
    let same = ap (λ r. Some (declared_as_view r.meaning)) (sym at.declared) in
    record {
      steps =
          subst (AreEntrySteps spec entries (drop (i + 1) entries)) (sym (ap step_lists c.in_ok-push-2.ensures.items ∙ map-append (λ v. v.items) c.loop-i.steps.items (body.steps ∷ [])))
          (entry_taken spec entries _ _ (step_lists c.loop-i.steps.items) at.entry _ at.rest c.loop-i.invariant.steps c.in_ok-body.ensures.within
          (c.in_ok-body.ensures.steps spec c.requires ∙ ap (onward_from spec) same));
      answering =
          c.in_ok-push.ensures.items
          ∙ ap (λ bs. bs ++ body.is_answering ∷ []) c.loop-i.invariant.answering
          ∙ ap (λ b. map is_with_result (take i entries) ++ b ∷ []) (c.in_ok-body.ensures.answering ∙ ap has_result_in_body same)
          ∙ sym (map-append is_with_result (take i entries) (at.entry ∷ []))
          ∙ ap (map is_with_result) (sym at.front);
    }

pub returns : goal.returns
returns c =
    let spec = spec_of c.args.spec.now in
    let entries = c.args.names.now in
    let lists = step_lists c.loop-i.steps.items in
    let end = c.len-i-end.ensures.len in
    let past = c.loop-i-test.false in
    let whole : length entries ≤ c.loop-i.i = omega (arith, end, past) in
    let all : AreEntrySteps spec entries [] lists = subst (λ es. AreEntrySteps spec entries es lists) (drop_of_length-le entries whole) c.loop-i.invariant.steps in
    let same : length lists ≡ length entries = omega (arith, all.counted) in
    record {
      answering = c.loop-i.invariant.answering ∙ ap (map is_with_result) (take_all c.loop-i.i entries whole);
      len = sym (length-map c.loop-i.steps.items (λ v. v.items)) ∙ same;
      graph = subst (λ k. All (All (λ n. n < k)) lists) (sym same) all.graph;
      steps = onward_at spec entries lists c.requires same (sym (append-nil (map (map (text_at entries)) lists)) ∙ all.steps);
    }
