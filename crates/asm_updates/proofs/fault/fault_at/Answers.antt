use Rattle.std.proofs.Common.{sym, ◌∙◌}
use Rattle.asm_updates.proofs.Faults.{settled_by_codes}
use Rattle.asm_updates.proofs.fault.fault_at.Goals as goal

pub returns-then-code-clause-settled : goal.returns-then-code-clause-settled
returns-then-code-clause-settled c =
    settled_by_codes _ _ _ c.in_default.ensures.proper
    (sym c.code.ensures.code ∙ c.if-code.true ∙ c.code-2.ensures.code)
