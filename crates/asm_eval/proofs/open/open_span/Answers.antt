use Rattle.std.proofs.Common.{◌∙◌, ap, sym, arith}
use Rattle.std.specs.Prelude.{option_map}
use Rattle.asm_meaning.specs.code.Intervals.{between}
use Rattle.asm_eval.specs.declared.part.Part.TheVariants as part
use Rattle.asm_code.proofs.RuleForms.{rule_laws-forall_form as forall_form}
use Rattle.asm_code.specs.code.CodeViews.{code_of}
use Rattle.asm_code.specs.code.Readings.{universe_at}
use Rattle.asm_code.specs.code.RuleTree as tree
use Rattle.asm_code.specs.code.RuleViews.{rule_of}
use Rattle.asm_code.specs.declared.rule_code.RuleCode.{RuleCode}
use Rattle.asm_eval.proofs.OpenedRules.{bodies_opened, opens_same}
use Rattle.asm_eval.specs.code.Frames.{readings_of}
use Rattle.asm_eval.specs.code.Opening.{body_works, counted_works, part_opened}
use Rattle.asm_eval.specs.code.Evaluation.{evaluation_choices, frame_locations, evaluation_shape, evaluation_state}
use Rattle.asm_eval.proofs.open.open_span.Goals as goal

pub returns : goal.returns
returns g c =
    let a = c.args in
    let r = a.evaluation.now in
    let shape = evaluation_shape r in
    let A = evaluation_state r in
    let it = c.in-Forall in
    let rs = readings_of shape a.piece.now.frame in
    let ls = frame_locations shape a.piece.now.frame in
    let p = a.piece.now.path in
    let test = option_map code_of it.test in
    let body = rule_of c.deref.result.now in
    let is = forall_form a.piece.now.rule.now it.over it.test it.body it.is ∙ ap (λ (P : RuleCode). tree.Forall it.over test (rule_of P)) (sym c.deref.ensures) in
    opens_same r c.open_bodies.result _ _
    (ap (λ q. counted_works (body_works shape A test body rs ls q a.from (between a.from a.to (universe_at shape it.over)))) c.as_slice.ensures
    ∙ bodies_opened a.cut shape A rs ls p a.from a.to it.over test body (omega arith)
    ∙ ap (λ R. part_opened shape A (evaluation_choices r) a.cut R rs ls p (part.Span a.from a.to)) (sym is))
    c.open_bodies.ensures
