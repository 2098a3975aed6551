use Rattle.std.proofs.Common.{ap, sym, ◌∙◌}
use Rattle.asm_updates.specs.code.SummaryRanges.{SummaryRanges}
use Rattle.asm_updates.proofs.Faults.{consistent}
use Rattle.asm_updates.proofs.Marks.{unmarked}
use Rattle.asm_updates.proofs.summary.Summary.first_fault.Goals as goal

-- no mark is there
pub returns-else-self-clause-consistent : goal.returns-else-self-clause-consistent
returns-else-self-clause-consistent c = λ U stands.
    consistent c.args.signature.now c.args.self.now U stands
    (stands.marks_faults (ap (λ (s : SummaryRanges). s.may_fault) (sym c.self.view_is) ∙ unmarked c.self.inside.may_fault c.self.inside.ranges.entries c.if-self.false))
