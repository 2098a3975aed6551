use Rattle.std.proofs.Common.{false, refl, rules}
use Rattle.asm_updates.proofs.IndexedRanges.{AreEntries-none}
use Rattle.asm_updates.proofs.StandingSummaries.{stands_for_none}
use Rattle.asm_updates.proofs.Marks.{unmarked}
use Rattle.asm_updates.proofs.summary.Summary.clear.Goals as goal

pub invariant_of-self : goal.invariant_of-self
invariant_of-self c = AreEntries-none c.self.inside.count c.clear.new.self.entries c.clear.ensures

pub returns-clause-empty : goal.returns-clause-empty
returns-clause-empty c = λ shape sound count. stands_for_none shape _ sound (search rules) (search rules)

pub returns-clause-mark : goal.returns-clause-mark
returns-clause-mark c = unmarked false _ refl
