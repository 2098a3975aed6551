use Rattle.asm_check.proofs.UseLemmas.RulesWithResult.{answers_at}
use Rattle.asm_check.proofs.uses.rules_with_result.has_result_in_body.Goals as goal

pub returns-in-Some : goal.returns-in-Some
returns-in-Some c = λ spec table. answers_at spec c.args.names.now c.args.with_result.now c.in-Some.i c.args.name.now table c.requires c.in-Some.ensures.found c.in-Some.ensures.name
