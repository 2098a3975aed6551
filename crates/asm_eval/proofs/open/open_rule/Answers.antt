use Rattle.std.proofs.Common.{ℕ, Some, None, cond, sym, ap, subst, ◌∙◌, ◌++◌, ◌∷◌, map, arith}
use Rattle.std.specs.Prelude.{option_map}
use Rattle.asm_state.specs.Words.{value_of_code}
use Rattle.asm_meaning.specs.Taken.{taken}
use Rattle.asm_eval.specs.declared.part.Part.TheVariants as part
use Rattle.asm_code.proofs.RuleForms.{rule_laws-par_form as par_form, rule_laws-if_form as if_form, rule_laws-let_form as let_form, rule_laws-forall_form as forall_form, rule_laws-choose_form as choose_form, rule_laws-call_form as call_form}
use Rattle.asm_code.specs.code.CodeViews.{code_of, codes_of}
use Rattle.asm_code.specs.code.Readings.{always}
use Rattle.asm_code.specs.code.RuleMeaning.{result_locations, result_readings, optional_target_location, named_readings, passing}
use Rattle.asm_code.specs.code.RuleTree as tree
use Rattle.asm_eval.proofs.OpenedRules.{given, opens_same}
use Rattle.asm_eval.proofs.RuleYields.{contents_are, named_are, size_here}
use Rattle.asm_eval.specs.code.Frames.{result_contents, by_name, readings_of}
use Rattle.asm_eval.specs.code.Opening.{choice_works, one_work, part_opened, part_works, rule_works}
use Rattle.asm_eval.specs.code.Pieces.{IsPartOf}
use Rattle.std.specs.Arc.{arc_value}
use Rattle.asm_code.specs.code.RuleViews.{target_code_of, rule_of, rules_of}
use Rattle.asm_eval.specs.code.Evaluation.{evaluation_choices, location_numbered, frame_locations, evaluation_shape, evaluation_state}
use Rattle.asm_eval.proofs.open.open_rule.Goals as goal

pub open_span-requires-clause-part : goal.open_span-requires-clause-part
open_span-requires-clause-part g c =
    let a = c.args in
    let shape = evaluation_shape a.evaluation.now in
    let it = c.in-Forall in
    let size = size_here shape.universes it.over c.universe.result.now c.size-size.result c.universe.ensures c.size-size.ensures.size in
    subst (λ S. IsPartOf shape S (part.Span 0 c.size-size.result)) (sym (forall_form a.piece.now.rule.now it.over it.test it.body it.is)) (record { rises = omega arith; within = omega (arith, size) })

pub returns-in-Par : goal.returns-in-Par
returns-in-Par g c =
    let a = c.args in
    let r = a.evaluation.now in
    let shape = evaluation_shape r in
    let rs = readings_of shape a.piece.now.frame in
    let ls = frame_locations shape a.piece.now.frame in
    let p = a.piece.now.path in
    let R = a.piece.now.rule.now in
    let q = c.as_slice-path.result.now in
    let works = λ (P : tree.RuleCode). rule_works shape (evaluation_state r) (evaluation_choices r) a.cut P rs ls p in
    opens_same r c.open_parts.result _ _
    (ap (λ Ps. given 0 (part_works 0 (rules_of (map rule_of Ps)) rs ls q)) c.as_slice.ensures.value
    ∙ ap (λ q. given 0 (part_works 0 (rules_of (map rule_of c.in-Par.parts.items)) rs ls q)) c.as_slice-path.ensures
    ∙ ap works (sym (par_form R c.in-Par.parts c.in-Par.is)))
    c.open_parts.ensures

pub returns-in-Forall : goal.returns-in-Forall
returns-in-Forall g c =
    let a = c.args in
    let r = a.evaluation.now in
    let shape = evaluation_shape r in
    let A = evaluation_state r in
    let rs = readings_of shape a.piece.now.frame in
    let ls = frame_locations shape a.piece.now.frame in
    let p = a.piece.now.path in
    let it = c.in-Forall in
    let form = forall_form a.piece.now.rule.now it.over it.test it.body it.is in
    let size = size_here shape.universes it.over c.universe.result.now c.size-size.result c.universe.ensures c.size-size.ensures.size in
    let span = λ (n : ℕ) (R : tree.RuleCode). part_opened shape A (evaluation_choices r) a.cut R rs ls p (part.Span 0 n) in
    opens_same r c.open_span.result _ _
    (ap (span c.size-size.result) form
    ∙ ap (λ n. span n (tree.Forall it.over (option_map code_of it.test) (rule_of it.body.value))) size
    ∙ ap (λ R. rule_works shape A (evaluation_choices r) a.cut R rs ls p) (sym form))
    c.open_span.ensures

pub returns-then-tested : goal.returns-then-tested
returns-then-tested g c =
    let a = c.args in
    let r = a.evaluation.now in
    let shape = evaluation_shape r in
    let A = evaluation_state r in
    let rs = readings_of shape a.piece.now.frame in
    let ls = frame_locations shape a.piece.now.frame in
    let p = a.piece.now.path in
    let R = a.piece.now.rule.now in
    let it = c.in-If in
    opens_same r c.open_one.result _ _
    (ap (λ P. one_work (rule_of P) rs ls c.as_slice-path.result.now 0) c.deref.ensures
    ∙ ap (λ q. one_work (rule_of it.yes.value) rs ls q 0) c.as_slice-path.ensures
    ∙ ap (λ b. cond b (one_work (rule_of it.yes.value) rs ls p 0) (one_work (rule_of it.no.value) rs ls p 1)) (sym (sym c.holds-tested.ensures ∙ c.if-tested.true))
    ∙ ap (λ P. rule_works shape A (evaluation_choices r) a.cut P rs ls p) (sym (if_form R it.test it.yes it.no it.is)))
    c.open_one.ensures

pub returns-else-tested : goal.returns-else-tested
returns-else-tested g c =
    let a = c.args in
    let r = a.evaluation.now in
    let shape = evaluation_shape r in
    let A = evaluation_state r in
    let rs = readings_of shape a.piece.now.frame in
    let ls = frame_locations shape a.piece.now.frame in
    let p = a.piece.now.path in
    let R = a.piece.now.rule.now in
    let it = c.in-If in
    opens_same r c.open_one-else-tested.result _ _
    (ap (λ P. one_work (rule_of P) rs ls c.as_slice-path.result.now 1) c.deref-else-tested.ensures
    ∙ ap (λ q. one_work (rule_of it.no.value) rs ls q 1) c.as_slice-path.ensures
    ∙ ap (λ b. cond b (one_work (rule_of it.yes.value) rs ls p 0) (one_work (rule_of it.no.value) rs ls p 1)) (sym (sym c.holds-tested.ensures ∙ c.if-tested.false))
    ∙ ap (λ P. rule_works shape A (evaluation_choices r) a.cut P rs ls p) (sym (if_form R it.test it.yes it.no it.is)))
    c.open_one-else-tested.ensures

pub returns-in-Let : goal.returns-in-Let
returns-in-Let g c =
    let a = c.args in
    let r = a.evaluation.now in
    let shape = evaluation_shape r in
    let A = evaluation_state r in
    let rs = readings_of shape a.piece.now.frame in
    let ls = frame_locations shape a.piece.now.frame in
    let p = a.piece.now.path in
    let it = c.in-Let in
    let v = value_of_code c.unbranded_code.result.value in
    opens_same r c.open_one-in-Let.result _ _
    (ap (λ P. one_work (rule_of P) (always v ∷ rs) (None ∷ ls) c.as_slice-path.result.now 0) c.deref-in-Let.ensures
    ∙ ap (λ q. one_work (rule_of it.body.value) (always v ∷ rs) (None ∷ ls) q 0) c.as_slice-path.ensures
    ∙ ap (λ v. one_work (rule_of it.body.value) (always v ∷ rs) (None ∷ ls) p 0) (c.unbranded_code.ensures ∙ c.value-value.ensures)
    ∙ ap (λ P. rule_works shape A (evaluation_choices r) a.cut P rs ls p) (sym (let_form a.piece.now.rule.now it.term it.body it.is)))
    c.open_one-in-Let.ensures

pub returns-in-Some : goal.returns-in-Some
returns-in-Some g c =
    let a = c.args in
    let r = a.evaluation.now in
    let shape = evaluation_shape r in
    let A = evaluation_state r in
    let rs = readings_of shape a.piece.now.frame in
    let ls = frame_locations shape a.piece.now.frame in
    let p = a.piece.now.path in
    let it = c.in-Choose in
    let P = rule_of it.body.value in
    let Q = rule_of it.none.value in
    let test = option_map code_of it.test in
    let v = value_of_code c.unbranded_code-in-Some.result.value in
    opens_same r c.open_one-in-Some.result _ _
    (ap (λ P. one_work (rule_of P) (always v ∷ rs) (None ∷ ls) c.as_slice-path.result.now 0) c.deref-in-Some.ensures
    ∙ ap (λ o. choice_works o P Q rs ls c.as_slice-path.result.now) (ap Some c.unbranded_code-in-Some.ensures ∙ sym c.in-Some.is ∙ c.chosen.ensures)
    ∙ ap (λ q. choice_works (taken (evaluation_choices r q) (passing shape it.over test rs A)) P Q rs ls q) c.as_slice-path.ensures
    ∙ ap (λ R. rule_works shape A (evaluation_choices r) a.cut R rs ls p) (sym (choose_form a.piece.now.rule.now it.over it.test it.body it.none it.is)))
    c.open_one-in-Some.ensures

pub returns-in-None : goal.returns-in-None
returns-in-None g c =
    let a = c.args in
    let r = a.evaluation.now in
    let shape = evaluation_shape r in
    let A = evaluation_state r in
    let rs = readings_of shape a.piece.now.frame in
    let ls = frame_locations shape a.piece.now.frame in
    let p = a.piece.now.path in
    let it = c.in-Choose in
    let P = rule_of it.body.value in
    let Q = rule_of it.none.value in
    let test = option_map code_of it.test in
    opens_same r c.open_one-in-None.result _ _
    (ap (λ P. one_work (rule_of P) rs ls c.as_slice-path.result.now 1) c.deref-in-None.ensures
    ∙ ap (λ o. choice_works o P Q rs ls c.as_slice-path.result.now) (sym c.in-None.is ∙ c.chosen.ensures)
    ∙ ap (λ q. choice_works (taken (evaluation_choices r q) (passing shape it.over test rs A)) P Q rs ls q) c.as_slice-path.ensures
    ∙ ap (λ R. rule_works shape A (evaluation_choices r) a.cut R rs ls p) (sym (choose_form a.piece.now.rule.now it.over it.test it.body it.none it.is)))
    c.open_one-in-None.ensures

pub returns-in_ok-answer-in-Call : goal.returns-in_ok-answer-in-Call
returns-in_ok-answer-in-Call g c =
    let a = c.args in
    let r = a.evaluation.now in
    let shape = evaluation_shape r in
    let A = evaluation_state r in
    let rs = readings_of shape a.piece.now.frame in
    let ls = frame_locations shape a.piece.now.frame in
    let p = a.piece.now.path in
    let it = c.in-Call in
    let to = option_map target_code_of it.answer in
    let n = c.in_ok-answer-in-Call.answer in
    let there = c.in_ok-answer-in-Call.ensures.location in
    let q = c.as_slice-path.result.now in
    let P = rule_of (arc_value it.body) in
    opens_same r c.open_one-in-Call.result _ _
    (ap (λ P. one_work (rule_of P) (result_contents shape n ++ by_name shape rs c.as_slice-in-Call.result.now) (result_locations (location_numbered shape n)) q 0) c.deref-in-Call.ensures
    ∙ ap (λ ts. one_work P (result_contents shape n ++ by_name shape rs ts) (result_locations (location_numbered shape n)) q 0) c.as_slice-in-Call.ensures.value
    ∙ ap (λ xs. one_work P (xs ++ by_name shape rs it.arguments.items) (result_locations (location_numbered shape n)) q 0) (contents_are shape n)
    ∙ ap (λ xs. one_work P (result_readings (location_numbered shape n) ++ xs) (result_locations (location_numbered shape n)) q 0) (sym (named_are shape rs it.arguments.items))
    ∙ ap (λ l. one_work P (result_readings l ++ named_readings shape (codes_of (map code_of it.arguments.items)) rs) (result_locations l) q 0) there
    ∙ ap (λ q. one_work P (result_readings (optional_target_location shape to rs ls A) ++ named_readings shape (codes_of (map code_of it.arguments.items)) rs) (result_locations (optional_target_location shape to rs ls A)) q 0) c.as_slice-path.ensures
    ∙ ap (λ R. rule_works shape A (evaluation_choices r) a.cut R rs ls p) (sym (call_form a.piece.now.rule.now it.body it.answer it.arguments it.is)))
    c.open_one-in-Call.ensures
