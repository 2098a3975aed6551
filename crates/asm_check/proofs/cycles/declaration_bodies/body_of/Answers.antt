use Rattle.std.proofs.Common.{Some, ap, sym, ◌∙◌}
use Rattle.std.specs.List.{list_any}
use Rattle.asm_check.specs.Names.{has_result_in_body, is_result}
use Rattle.asm_check.specs.code.names.Tables.{declared_as_view}
use Rattle.asm_check.proofs.UseLemmas.RulesWithResult.{any_result}
use Rattle.asm_check.proofs.cycles.declaration_bodies.body_of.Goals as goal

pub returns-in_ok-steps-in-Rule-clause-answering : goal.returns-in_ok-steps-in-Rule-clause-answering
returns-in_ok-steps-in-Rule-clause-answering c =
    c.has_result-is_answering.ensures
    ∙ sym (any_result c.in-Rule.body.uses.now)
    ∙ ap (list_any (λ u. is_result u.role)) c.in-Rule.body.collected
    ∙ ap (λ m. has_result_in_body (Some (declared_as_view m))) (sym c.in-Rule.is)
