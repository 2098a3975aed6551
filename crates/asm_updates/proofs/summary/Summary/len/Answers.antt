use Rattle.std.proofs.Common.{ap, sym, ◌∙◌}
use Rattle.asm_updates.specs.code.SummaryRanges.{SummaryRanges}
use Rattle.asm_updates.proofs.Marks.{no_mark}
use Rattle.asm_updates.proofs.summary.Summary.len.Goals as goal

pub returns-clause-mark : goal.returns-clause-mark
returns-clause-mark c = λ zero. ap (λ (s : SummaryRanges). s.may_fault) (sym c.self.view_is) ∙ no_mark c.self.inside.may_fault c.self.inside.ranges.entries (sym c.len.ensures ∙ zero)
