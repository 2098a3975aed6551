use Rattle.asm_syntax.proofs.SharedParts.{rule}
use Rattle.asm_syntax.proofs.shared.rules_are_shared.Goals as goal

pub returns : goal.returns
returns c = rule (record { shared = c.is_shared.ensures.shared })
