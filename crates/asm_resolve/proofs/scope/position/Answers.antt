use Rattle.std.proofs.Common.{sym, ap, ◌∙◌}
use Rattle.asm_resolve.specs.code.Scopes.{slots_of}
use Rattle.asm_resolve.proofs.FoundNames.{position_found, positions_found}
use Rattle.asm_resolve.proofs.scope.position.Goals as goal

pub returns-in-None : goal.returns-in-None
returns-in-None c = ap position_found (sym c.in-None.is ∙ c.in_ok-find.ensures) ∙ positions_found (slots_of c.args.scope.now) c.args.name.now.text

pub returns-in-Some : goal.returns-in-Some
returns-in-Some c = ap position_found (sym c.in-Some.is ∙ c.in_ok-find.ensures) ∙ positions_found (slots_of c.args.scope.now) c.args.name.now.text
