use Rattle.std.proofs.Common.{sym, subst, arith}
use Rattle.asm_code.proofs.RuleForms.{rule_laws-forall_form as forall_form}
use Rattle.asm_eval.specs.code.Pieces.{HasAtMost, all_positions}
use Rattle.asm_eval.proofs.RuleYields.{size_here}
use Rattle.asm_eval.proofs.piece_positions.whole_cut.Goals as goal

pub returns-in-Forall-clause-whole : goal.returns-in-Forall-clause-whole
returns-in-Forall-clause-whole c =
    let shape = c.args.signature.now in
    let it = c.in-Forall in
    let size = size_here shape.universes it.over c.universe.result.now c.size.result c.universe.ensures c.size.ensures.size in
    subst (λ R. HasAtMost (all_positions shape R) c.max.result) (sym (forall_form c.args.rule.now it.over it.test it.body it.is))
    (omega (arith, size, c.max.ensures))
