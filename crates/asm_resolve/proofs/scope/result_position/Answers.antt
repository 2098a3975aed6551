use Rattle.std.proofs.Common.{cond, Some, None, sym, ap, ◌∙◌}
use Rattle.asm_resolve.specs.code.Scopes.{slots_of}
use Rattle.asm_resolve.proofs.FoundNames.{answer_found, answers_found}
use Rattle.asm_resolve.proofs.scope.result_position.Goals as goal

pub returns-in-None : goal.returns-in-None
returns-in-None c = ap answer_found (sym c.in-None.is ∙ c.in_ok-find.ensures) ∙ answers_found (slots_of c.args.scope.now) c.args.name.now.text

pub returns-then-is_located : goal.returns-then-is_located
returns-then-is_located c =
    ap (λ b. cond b (Some c.in-Some.position) None) (sym c.if-is_located.true)
    ∙ ap answer_found (sym c.in-Some.is ∙ c.in_ok-find.ensures) ∙ answers_found (slots_of c.args.scope.now) c.args.name.now.text

pub returns-else-is_located : goal.returns-else-is_located
returns-else-is_located c =
    ap (λ b. cond b (Some c.in-Some.position) None) (sym c.if-is_located.false)
    ∙ ap answer_found (sym c.in-Some.is ∙ c.in_ok-find.ensures) ∙ answers_found (slots_of c.args.scope.now) c.args.name.now.text
