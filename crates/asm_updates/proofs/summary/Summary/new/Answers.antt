use Rattle.std.proofs.Common.{false, refl, rules}
use Rattle.asm_updates.proofs.StandingSummaries.{stands_for_none}
use Rattle.asm_updates.proofs.Marks.{unmarked}
use Rattle.asm_updates.proofs.summary.Summary.new.Goals as goal

pub returns-clause-empty : goal.returns-clause-empty
returns-clause-empty c = λ shape sound count. stands_for_none shape _ sound count (search rules)

pub returns-clause-mark : goal.returns-clause-mark
returns-clause-mark c = unmarked false _ refl
