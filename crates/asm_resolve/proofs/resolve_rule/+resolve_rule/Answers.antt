use Rattle.std.proofs.Common.{◌+◌, ◌∷◌, length, take, None, refl, sym, ap, subst, ◌∙◌, arith}
use Rattle.std.specs.Arc.{arc_value}
use Rattle.std.proofs.lemmas.List.{take_all}
use Rattle.asm_syntax.specs.Tree as plain
use Rattle.asm_syntax.specs.code.Views.{spec_of}
use Rattle.asm_check.specs.Shapes.{shape_of}
use Rattle.asm_check.specs.code.numbers.NumberTables.{IsInRange}
use Rattle.asm_meaning.specs.Declarations.{program_of, rule_number}
use Rattle.asm_syntax.specs.declared.rule.Rule.{Rule}
use Rattle.asm_meaning.specs.code.MeantTrees.{meant, meant_branch, meant_target, meant_term, meant_terms}
use Rattle.asm_meaning.specs.code.TermValues.{condition}
use Rattle.asm_meaning.proofs.TreeWeights.{tree_weights-call as call_is_less}
use Rattle.std.specs.Prelude.{Option, IfSome}
use Rattle.asm_code.specs.code.RuleViews.{rule_of}
use Rattle.asm_resolve.specs.code.RuleScopes.{AreRuleBodies, IsRuleBody}
use Rattle.asm_resolve.specs.code.Scopes.{slots_in, slots_of}
use Rattle.asm_resolve.specs.code.Slots.{value_slot}
use Rattle.asm_resolve.proofs.RulePasses.{moved, skip_here, par_here, seq_here, if_here, let_here, forall_here, forall_none_here, choose_here, choose_none_here, iterate_here, while_here, if_yes_falls, if_no_falls, let_falls, forall_falls, choose_both_fall, iterate_falls, while_falls, par_falls, seq_falls, call_falls, other_falls, part_falls, called_here, not_called_here, rule_is, body_here, left_out_here}
use Rattle.asm_resolve.proofs.RuleResolving.{AllRulesResolved, one_more_rule, plain_assign, plain_set_result, plain_call, plain_forall, plain_choose, plain_while}
use Rattle.asm_resolve.proofs.resolve_rule.+resolve_rule.Goals as goal

-- ---- the rules by their forms

pub resolve_rule-returns-in-Skip-clause-resolved : goal.resolve_rule-returns-in-Skip-clause-resolved
resolve_rule-returns-in-Skip-clause-resolved t c =
    let a = c.args in
    skip_here (spec_of a.checked.now.spec) a.checked.now.well_formed (slots_of a.scope.now) a.rule.now c.in-Skip.is

pub resolve_rule-returns-in-Assign-clause-resolved : goal.resolve_rule-returns-in-Assign-clause-resolved
resolve_rule-returns-in-Assign-clause-resolved t c =
    let a = c.args in
    let r = c.in-Assign in
    moved (spec_of a.checked.now.spec) a.checked.now.well_formed (slots_of a.scope.now) c.resolve_assign.result _ (meant a.rule.now)
    (plain_assign a.rule.now r.name r.arguments r.value r.is ∙ ap (λ us. plain.Assign r.name.text (meant_terms us) (meant_term r.value)) (sym c.as_slice.ensures.value)) c.resolve_assign.ensures.resolved

pub resolve_rule-returns-in-SetResult-clause-resolved : goal.resolve_rule-returns-in-SetResult-clause-resolved
resolve_rule-returns-in-SetResult-clause-resolved t c =
    let a = c.args in
    let r = c.in-SetResult in
    moved (spec_of a.checked.now.spec) a.checked.now.well_formed (slots_of a.scope.now) c.resolve_assign-in-SetResult.result _ (meant a.rule.now)
    (plain_set_result a.rule.now r.name r.value r.is) c.resolve_assign-in-SetResult.ensures.resolved

pub resolve_rule-resolve_parts-requires : goal.resolve_rule-resolve_parts-requires
resolve_rule-resolve_parts-requires t c =
    let a = c.args in
    let it = par_falls a.checked.now a.rule.now c.in-Par.parts c.in-Par.is c.as_slice-in-Par.result.now c.as_slice-in-Par.ensures.value in
    (omega (arith, c.decreases, it), c.requires.known)

pub resolve_rule-returns-in_ok-codes-in-Par-clause-resolved : goal.resolve_rule-returns-in_ok-codes-in-Par-clause-resolved
resolve_rule-returns-in_ok-codes-in-Par-clause-resolved t c =
    let a = c.args in
    par_here (spec_of a.checked.now.spec) a.checked.now.well_formed (slots_of a.scope.now) a.rule.now c.in-Par.parts c.in-Par.is c.as_slice-in-Par.result.now c.as_slice-in-Par.ensures.value
    c.in_ok-codes-in-Par.codes c.in_ok-codes-in-Par.ensures.resolved

pub resolve_rule-resolve_parts-requires-in-Seq : goal.resolve_rule-resolve_parts-requires-in-Seq
resolve_rule-resolve_parts-requires-in-Seq t c =
    let a = c.args in
    let it = seq_falls a.checked.now a.rule.now c.in-Seq.parts c.in-Seq.is c.as_slice-in-Seq.result.now c.as_slice-in-Seq.ensures.value in
    (omega (arith, c.decreases, it), c.requires.known)

pub resolve_rule-returns-in_ok-codes-in-Seq-clause-resolved : goal.resolve_rule-returns-in_ok-codes-in-Seq-clause-resolved
resolve_rule-returns-in_ok-codes-in-Seq-clause-resolved t c =
    let a = c.args in
    seq_here (spec_of a.checked.now.spec) a.checked.now.well_formed (slots_of a.scope.now) a.rule.now c.in-Seq.parts c.in-Seq.is c.as_slice-in-Seq.result.now c.as_slice-in-Seq.ensures.value
    c.in_ok-codes-in-Seq.codes c.in_ok-codes-in-Seq.ensures.resolved

pub resolve_rule-resolve_boxed-requires : goal.resolve_rule-resolve_boxed-requires
resolve_rule-resolve_boxed-requires t c =
    let a = c.args in
    let r = c.in-If in
    let it = if_yes_falls a.checked.now a.rule.now r.test r.yes r.no r.is c.deref.result.now c.deref.ensures in
    (omega (arith, c.decreases, it), (c.in_ok-test-in-If.ensures.bodies, c.requires.known.1))

pub resolve_rule-resolve_other-requires : goal.resolve_rule-resolve_other-requires
resolve_rule-resolve_other-requires t c =
    let a = c.args in
    let r = c.in-If in
    let it = if_no_falls a.checked.now a.rule.now r.test r.yes r.no r.is in
    (omega (arith, c.decreases, it), c.in_ok-yes-in-If.ensures.known)

pub resolve_rule-returns-in_ok-new-in-If-clause-resolved : goal.resolve_rule-returns-in_ok-new-in-If-clause-resolved
resolve_rule-returns-in_ok-new-in-If-clause-resolved t c =
    let a = c.args in
    let r = c.in-If in
    if_here (spec_of a.checked.now.spec) a.checked.now.well_formed (slots_of a.scope.now) a.rule.now r.test r.yes r.no r.is c.deref.result.now c.deref.ensures
    c.in_ok-test-in-If.test c.in_ok-test-in-If.ensures.resolved c.in_ok-yes-in-If.yes c.in_ok-yes-in-If.ensures.resolved c.in_ok-no-in-If.no c.in_ok-no-in-If.ensures.resolved c.in_ok-new-in-If.field-0 c.in_ok-new-in-If.ensures.ok

pub resolve_rule-resolve_boxed-requires-in-Let : goal.resolve_rule-resolve_boxed-requires-in-Let
resolve_rule-resolve_boxed-requires-in-Let t c =
    let a = c.args in
    let r = c.in-Let in
    let it = let_falls a.checked.now a.rule.now r.name r.value r.body r.is c.deref-in-Let.result.now c.deref-in-Let.ensures in
    (omega (arith, c.decreases, it), (c.in_ok-value-in-Let.ensures.bodies, c.requires.known.1))

pub resolve_rule-returns-in_ok-body-in-Let-clause-resolved : goal.resolve_rule-returns-in_ok-body-in-Let-clause-resolved
resolve_rule-returns-in_ok-body-in-Let-clause-resolved t c =
    let a = c.args in
    let r = c.in-Let in
    let_here (spec_of a.checked.now.spec) a.checked.now.well_formed (slots_of a.scope.now) a.rule.now r.name r.value r.body r.is c.deref-in-Let.result.now c.deref-in-Let.ensures
    c.in_ok-value-in-Let.value c.in_ok-value-in-Let.ensures.resolved (value_slot r.name.text ∷ slots_of a.scope.now) refl
    c.in_ok-body-in-Let.body c.in_ok-body-in-Let.ensures.resolved

pub resolve_rule-resolve_boxed-requires-in-Iterate : goal.resolve_rule-resolve_boxed-requires-in-Iterate
resolve_rule-resolve_boxed-requires-in-Iterate t c =
    let a = c.args in
    let r = c.in-Iterate in
    let it = iterate_falls a.checked.now a.rule.now r.body r.is c.deref-in-Iterate.result.now c.deref-in-Iterate.ensures in
    (omega (arith, c.decreases, it), c.requires.known)

pub resolve_rule-returns-in_ok-body-in-Iterate-clause-resolved : goal.resolve_rule-returns-in_ok-body-in-Iterate-clause-resolved
resolve_rule-returns-in_ok-body-in-Iterate-clause-resolved t c =
    let a = c.args in
    let r = c.in-Iterate in
    iterate_here (spec_of a.checked.now.spec) a.checked.now.well_formed (slots_of a.scope.now) a.rule.now r.body r.is c.deref-in-Iterate.result.now c.deref-in-Iterate.ensures
    c.in_ok-body-in-Iterate.body c.in_ok-body-in-Iterate.ensures.resolved

pub resolve_rule-resolve_forall-requires : goal.resolve_rule-resolve_forall-requires
resolve_rule-resolve_forall-requires t c =
    let a = c.args in
    let r = c.in-Forall in
    let it = forall_falls a.checked.now a.rule.now r.name r.over r.test r.body r.is c.deref-in-Forall.result.now c.deref-in-Forall.ensures in
    (omega (arith, c.decreases, it), c.requires.known)

pub resolve_rule-returns-in-Forall-clause-resolved : goal.resolve_rule-returns-in-Forall-clause-resolved
resolve_rule-returns-in-Forall-clause-resolved t c =
    let a = c.args in
    let r = c.in-Forall in
    moved (spec_of a.checked.now.spec) a.checked.now.well_formed (slots_of a.scope.now) c.resolve_forall.result _ (meant a.rule.now)
    (plain_forall a.rule.now r.name r.over r.test r.body r.is ∙ ap (λ (P : Rule). plain.Forall r.name.text r.over.text (condition r.test) (meant P)) (sym c.deref-in-Forall.ensures)) c.resolve_forall.ensures.resolved

pub resolve_rule-resolve_choose-requires : goal.resolve_rule-resolve_choose-requires
resolve_rule-resolve_choose-requires t c =
    let a = c.args in
    let r = c.in-Choose in
    let it = choose_both_fall a.checked.now a.rule.now r.name r.over r.test r.body r.none r.is c.deref-in-Choose.result.now c.deref-in-Choose.ensures in
    (omega (arith, c.decreases, it), c.requires.known)

pub resolve_rule-returns-in-Choose-clause-resolved : goal.resolve_rule-returns-in-Choose-clause-resolved
resolve_rule-returns-in-Choose-clause-resolved t c =
    let a = c.args in
    let r = c.in-Choose in
    moved (spec_of a.checked.now.spec) a.checked.now.well_formed (slots_of a.scope.now) c.resolve_choose.result _ (meant a.rule.now)
    (plain_choose a.rule.now r.name r.over r.test r.body r.none r.is ∙ ap (λ (P : Rule). plain.Choose r.name.text r.over.text (condition r.test) (meant P) (meant_branch r.none)) (sym c.deref-in-Choose.ensures)) c.resolve_choose.ensures.resolved

pub resolve_rule-resolve_while-requires : goal.resolve_rule-resolve_while-requires
resolve_rule-resolve_while-requires t c =
    let a = c.args in
    let r = c.in-While in
    let it = while_falls a.checked.now a.rule.now r.test r.body r.is c.deref-in-While.result.now c.deref-in-While.ensures in
    (omega (arith, c.decreases, it), c.requires.known)

pub resolve_rule-returns-in-While-clause-resolved : goal.resolve_rule-returns-in-While-clause-resolved
resolve_rule-returns-in-While-clause-resolved t c =
    let a = c.args in
    let r = c.in-While in
    moved (spec_of a.checked.now.spec) a.checked.now.well_formed (slots_of a.scope.now) c.resolve_while.result _ (meant a.rule.now)
    (plain_while a.rule.now r.test r.body r.is ∙ ap (λ (P : Rule). plain.Iterate (plain.If (meant_term r.test) (meant P) plain.Skip)) (sym c.deref-in-While.ensures)) c.resolve_while.ensures.resolved

-- ---- rules over universes, and turns

pub resolve_forall-resolve_boxed-requires : goal.resolve_forall-resolve_boxed-requires
resolve_forall-resolve_boxed-requires t c = (omega (arith, c.decreases), c.in_ok-test.ensures.known)

pub resolve_forall-returns-in_default-clause-resolved : goal.resolve_forall-returns-in_default-clause-resolved
resolve_forall-returns-in_default-clause-resolved t c =
    let a = c.args in
    forall_none_here (spec_of a.checked.now.spec) a.checked.now.well_formed (slots_of a.scope.now) a.name.now.text a.over.now.text a.test.now a.body.now c.in_default.ensures.none

pub resolve_forall-returns-clause-resolved : goal.resolve_forall-returns-clause-resolved
resolve_forall-returns-clause-resolved t c =
    let a = c.args in
    forall_here (spec_of a.checked.now.spec) a.checked.now.well_formed (slots_of a.scope.now) a.name.now.text a.over.now.text a.test.now a.body.now c.in-Some.over c.in-Some.ensures.number c.in-Some.ensures.known
    (value_slot a.name.now.text ∷ slots_of a.scope.now) refl
    c.in_ok-test.test c.in_ok-test.ensures.resolved c.in_ok-body.body c.in_ok-body.ensures.resolved

pub resolve_choose-resolve_other-requires : goal.resolve_choose-resolve_other-requires
resolve_choose-resolve_other-requires t c = (omega (arith, c.decreases), c.requires.known)

pub resolve_choose-resolve_boxed-requires : goal.resolve_choose-resolve_boxed-requires
resolve_choose-resolve_boxed-requires t c = (omega (arith, c.decreases), c.in_ok-test.ensures.known)

pub resolve_choose-returns-in_default-clause-resolved : goal.resolve_choose-returns-in_default-clause-resolved
resolve_choose-returns-in_default-clause-resolved t c =
    let a = c.args in
    choose_none_here (spec_of a.checked.now.spec) a.checked.now.well_formed (slots_of a.scope.now) a.name.now.text a.over.now.text a.test.now a.body.now a.none.now c.in_ok-other.other c.in_ok-other.ensures.resolved
    c.in_ok-none.none c.in_ok-none.ensures.ok c.in_default.ensures.none c.in_ok-new.field-0 c.in_ok-new.ensures.ok c.truth.result c.truth.ensures

pub resolve_choose-returns-clause-resolved : goal.resolve_choose-returns-clause-resolved
resolve_choose-returns-clause-resolved t c =
    let a = c.args in
    choose_here (spec_of a.checked.now.spec) a.checked.now.well_formed (slots_of a.scope.now) a.name.now.text a.over.now.text a.test.now a.body.now a.none.now c.in_ok-other.other c.in_ok-other.ensures.resolved c.in_ok-none.none c.in_ok-none.ensures.ok
    c.in-Some.over c.in-Some.ensures.number c.in-Some.ensures.known
    (value_slot a.name.now.text ∷ slots_of a.scope.now) refl
    c.in_ok-test.test c.in_ok-test.ensures.resolved c.in_ok-body.body c.in_ok-body.ensures.resolved

pub resolve_while-resolve_boxed-requires : goal.resolve_while-resolve_boxed-requires
resolve_while-resolve_boxed-requires t c = (omega (arith, c.decreases), (c.in_ok-test.ensures.bodies, c.requires.known.1))

pub resolve_while-returns-clause-resolved : goal.resolve_while-returns-clause-resolved
resolve_while-returns-clause-resolved t c =
    let a = c.args in
    while_here (spec_of a.checked.now.spec) a.checked.now.well_formed (slots_of a.scope.now) a.test.now a.body.now c.in_ok-test.test c.in_ok-test.ensures.resolved c.in_ok-yes.yes c.in_ok-yes.ensures.resolved
    c.in_ok-new.field-0 c.in_ok-new-2.field-0 c.in_ok-new.ensures.ok c.in_ok-new-2.ensures.ok

pub resolve_rule-resolve_call-requires : goal.resolve_rule-resolve_call-requires
resolve_rule-resolve_call-requires t c =
    let a = c.args in
    let r = c.in-Call in
    let it = call_falls a.checked.now a.rule.now r.target r.name r.arguments r.is c.as_slice-in-Call.result.now c.as_slice-in-Call.ensures.value in
    (omega (arith, c.decreases, it), c.requires.known)

pub resolve_rule-returns-in-Call-clause-resolved : goal.resolve_rule-returns-in-Call-clause-resolved
resolve_rule-returns-in-Call-clause-resolved t c =
    let a = c.args in
    let r = c.in-Call in
    moved (spec_of a.checked.now.spec) a.checked.now.well_formed (slots_of a.scope.now) c.resolve_call.result _ (meant a.rule.now)
    (plain_call a.rule.now r.target r.name r.arguments r.is ∙ ap (λ us. plain.Call (meant_target r.target) r.name.text (meant_terms us)) (sym c.as_slice-in-Call.ensures.value)) c.resolve_call.ensures.resolved

-- ---- boxes, branches and parts

pub resolve_other-resolve_rule-requires : goal.resolve_other-resolve_rule-requires
resolve_other-resolve_rule-requires t c =
    let a = c.args in
    let it = other_falls a.checked.now a.rule.now c.in-Some.rule c.in-Some.is c.deref.result.now c.deref.ensures in
    (omega (arith, c.decreases, it), c.requires.known)

pub resolve_parts-resolve_rule-requires : goal.resolve_parts-resolve_rule-requires
resolve_parts-resolve_rule-requires t c =
    let a = c.args in
    let it = part_falls a.checked.now a.parts.now c.loop-i.i c.index-parts-i.result c.loop-i-test.true c.index-parts-i.is in
    (omega (arith, c.decreases, it), c.loop-i.invariant.known)

pub resolve_parts-loop-i-preserved : goal.resolve_parts-loop-i-preserved
resolve_parts-loop-i-preserved t c =
    let a = c.args in
    let spec = spec_of a.checked.now.spec in
    let more = one_more_rule (program_of spec) (shape_of spec) (slots_of a.scope.now) a.parts.now c.loop-i.codes.items c.loop-i.i c.index-parts-i.result c.in_ok-code.code
    c.loop-i-test.true c.index-parts-i.is c.loop-i.invariant.codes c.in_ok-code.ensures.resolved in record {
      codes = subst (λ ks. AllRulesResolved (program_of spec) (shape_of spec) (slots_of a.scope.now) (take (c.loop-i.i + 1) a.parts.now) ks) (sym c.in_ok-push.ensures.items) more;
      known = c.in_ok-code.ensures.known;
    }

pub resolve_parts-returns-clause-resolved : goal.resolve_parts-returns-clause-resolved
resolve_parts-returns-clause-resolved t c =
    let a = c.args in
    let spec = spec_of a.checked.now.spec in
    subst (λ Ps. AllRulesResolved (program_of spec) (shape_of spec) (slots_of a.scope.now) Ps c.loop-i.codes.items) (take_all c.loop-i.i a.parts.now (omega arith)) c.loop-i.invariant.codes

-- ---- calls

pub resolve_call-resolve_rule_body-requires : goal.resolve_call-resolve_rule_body-requires
resolve_call-resolve_rule_body-requires t c =
    let spec = spec_of c.args.checked.now.spec in
    let is = rule_is c.named_text.result c.in-Some.r (sym c.number_of_rule.ensures ∙ c.in-Some.is) in
    (omega (arith, c.decreases), (c.in_ok-answer.ensures.known, (sym c.named_text.ensures.named ∙ is, subst (IsInRange spec) is c.named_text.ensures.in_range)))

pub resolve_rule_body-resolve_rule-requires : goal.resolve_rule_body-resolve_rule-requires
resolve_rule_body-resolve_rule-requires t c =
    let a = c.args in
    let it = call_is_less a.checked.now None a.name.now.text plain.no_terms a.r c.rule.result.0.now c.rule.result.1.now c.requires.number c.rule.ensures in
    (omega (arith, c.decreases, it), c.requires.known)

pub resolve_rule_body-known_rule-requires : goal.resolve_rule_body-known_rule-requires
resolve_rule_body-known_rule-requires t c = omega (arith, c.requires.in_range, c.requires.known.1.as_many, ap length c.as_slice.ensures.value)

pub resolve_rule_body-keep_rule-requires : goal.resolve_rule_body-keep_rule-requires
resolve_rule_body-keep_rule-requires t c = omega (arith, c.requires.in_range, c.in_ok-code.ensures.known.1.as_many)

pub resolve_rule_body-returns-clause-body : goal.resolve_rule_body-returns-clause-body
resolve_rule_body-returns-clause-body t c =
    let a = c.args in
    body_here (spec_of a.checked.now.spec) a.r a.bound a.answers c.rule.result.0.now c.rule.result.1.now c.rule.ensures c.first_of.result.now c.first_of.ensures
    (slots_in c.in_ok-parameters.parameters) c.in_ok-parameters.ensures c.in_ok-code.code (arc_value c.in_ok-body-2.body) c.in_ok-body-2.ensures.ok c.in_ok-code.ensures.resolved

pub resolve_rule_body-returns-clause-known : goal.resolve_rule_body-returns-clause-known
resolve_rule_body-returns-clause-known t c =
    let a = c.args in
    let spec = spec_of a.checked.now.spec in (
      c.in_ok-code.ensures.known.0,
      c.in_ok-keep_rule.ensures spec c.in_ok-code.ensures.known.1
          (body_here spec a.r a.bound a.answers c.rule.result.0.now c.rule.result.1.now c.rule.ensures c.first_of.result.now c.first_of.ensures
          (slots_in c.in_ok-parameters.parameters) c.in_ok-parameters.ensures
          c.in_ok-code.code (arc_value c.in_ok-shared_rule.field-0) (c.in_ok-shared_rule.ensures ∙ c.in_ok-body-2.ensures.ok) c.in_ok-code.ensures.resolved),
    )

pub resolve_call-returns-clause-resolved : goal.resolve_call-returns-clause-resolved
resolve_call-returns-clause-resolved t c =
    let a = c.args in
    let spec = spec_of a.checked.now.spec in
    called_here spec a.checked.now.well_formed (slots_of a.scope.now) (meant_target a.target.now) a.name.now.text c.in-Some.r c.min-bound.result c.in_ok-answer.answer
    (ap rule_number (sym c.named_text.ensures.named) ∙ sym c.number_of_rule.ensures ∙ c.in-Some.is) c.in_ok-body.body
    (subst (λ b. IsRuleBody spec c.in-Some.r b c.min-bound.result (rule_of (arc_value c.in_ok-body.body))) c.is_some.ensures c.in_ok-body.ensures.body)
    c.in_ok-answer.ensures.resolved a.arguments.now _ refl c.in_ok-arguments.arguments c.in_ok-arguments.ensures.resolved c.rule.result.0.now c.rule.result.1.now c.rule.ensures c.min-bound.ensures

pub resolve_call-returns-in_default-clause-resolved : goal.resolve_call-returns-in_default-clause-resolved
resolve_call-returns-in_default-clause-resolved t c =
    let a = c.args in
    not_called_here (spec_of a.checked.now.spec) a.checked.now.well_formed (slots_of a.scope.now) (meant_target a.target.now) a.name.now.text a.arguments.now
    (ap rule_number (sym c.named_text.ensures.named) ∙ sym c.number_of_rule.ensures ∙ c.in_default.is)

pub resolve_other-returns-in-None-clause-resolved : goal.resolve_other-returns-in-None-clause-resolved
resolve_other-returns-in-None-clause-resolved t c =
    let a = c.args in
    left_out_here (spec_of a.checked.now.spec) a.checked.now.well_formed (slots_of a.scope.now) a.rule.now c.in-None.is

pub resolve_rule_body-returns-in-Some-clause-body : goal.resolve_rule_body-returns-in-Some-clause-body
resolve_rule_body-returns-in-Some-clause-body t c =
    let a = c.args in
    let spec = spec_of a.checked.now.spec in
    subst (λ (o : Option _). IfSome o (λ k. IsRuleBody spec a.r a.answers a.bound (rule_of (arc_value k)))) c.in-Some.is (c.in_ok-body.ensures spec (subst (AreRuleBodies spec) (sym c.as_slice.ensures.value) c.requires.known.1))
