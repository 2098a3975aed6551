use Rattle.std.proofs.Common.{ap, sym, ◌∙◌}
use Rattle.asm_updates.specs.code.SummaryRanges.{SummaryRanges, summary_range}
use Rattle.asm_updates.proofs.summary.Summary.entry_at.Goals as goal

pub returns-clause-entry : goal.returns-clause-entry
returns-clause-entry c = ap (λ (s : SummaryRanges). summary_range s c.entry_at-n.result.0) (sym c.self.view_is) ∙ c.entry_at-n.ensures.found
