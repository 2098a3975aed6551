use Rattle.std.proofs.Common.{length, ap, ◌∙◌}
use Rattle.asm_updates.specs.code.SummaryRanges.{SummaryRanges, summary_range}
use Rattle.asm_updates.proofs.Marks.{same_mark}
use Rattle.asm_updates.proofs.summary.Summary.sort.Goals as goal

pub returns-clause-len : goal.returns-clause-len
returns-clause-len c = c.sort.ensures.len ∙ ap (λ (s : SummaryRanges). length s.ranges) c.self.view_is

pub returns-clause-entries : goal.returns-clause-entries
returns-clause-entries c = λ n. c.sort.ensures.same n ∙ ap (λ (s : SummaryRanges). summary_range s n) c.self.view_is

pub returns-clause-mark : goal.returns-clause-mark
returns-clause-mark c = same_mark c.self.inside.may_fault c.self.inside.ranges.entries _ c.sort.ensures.len ∙ ap (λ (s : SummaryRanges). s.may_fault) c.self.view_is
