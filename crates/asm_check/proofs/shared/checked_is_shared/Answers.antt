use Rattle.asm_check.proofs.SharedParts.{checked}
use Rattle.asm_check.proofs.shared.checked_is_shared.Goals as goal

pub returns : goal.returns
returns c = checked (record { shared = c.is_shared.ensures.shared }) (record { shared = c.rules_are_shared.ensures.shared }) (record { shared = c.is_shared-2.ensures.shared }) (record { shared = c.is_shared-3.ensures.shared }) (record { shared = c.is_shared-4.ensures.shared })
