use Rattle.asm_check.proofs.UseLemmas.FitScopes.{scopes_by_members}
use Rattle.asm_check.proofs.laws.scopes_by_members.Goals as goal

pub returns : goal.returns
returns c = scopes_by_members
