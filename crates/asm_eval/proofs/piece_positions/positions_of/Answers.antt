use Rattle.std.proofs.Common.{sym, ap, ◌∙◌, Some}
use Rattle.asm_code.specs.code.RuleViews.{rule_of}
use Rattle.asm_code.proofs.RuleForms.{rule_laws-forall_form as forall_form}
use Rattle.asm_eval.specs.code.Pieces.{all_positions, positions}
use Rattle.asm_eval.proofs.RuleYields.{size_here}
use Rattle.asm_eval.proofs.piece_positions.positions_of.Goals as goal

pub returns-in-Whole-Forall : goal.returns-in-Whole-Forall
returns-in-Whole-Forall c =
    let shape = c.args.signature.now in
    let rule = c.args.piece.now.rule.now in
    let it = c.in-Whole-Forall in
    ap Some (size_here shape.universes it.over c.universe.result.now c.size.result c.universe.ensures c.size.ensures.size)
    ∙ sym (ap (all_positions shape) (forall_form rule it.over it.test-1 it.body-1 it.is-1))
    ∙ sym (ap (positions shape (rule_of rule)) it.is-0)
