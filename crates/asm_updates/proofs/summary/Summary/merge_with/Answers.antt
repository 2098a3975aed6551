use Rattle.std.proofs.Common.{rules}
use Rattle.asm_updates.proofs.StandingSummaries.{stands_for_merge}
use Rattle.asm_updates.proofs.Marks.{marks_merge}
use Rattle.asm_updates.proofs.summary.Summary.merge_with.Goals as goal

pub returns-clause-merge : goal.returns-clause-merge
returns-clause-merge c = λ shape U V first second.
    stands_for_merge shape c.args.self.now c.args.later.now _ U V (search rules) (search rules)
    (marks_merge shape c.args.self.now c.args.later.now c.replace_all.new.ranges.entries c.is_marked_with-marked.result c.is_marked_with-marked.ensures (search rules) first.marks_faults second.marks_faults)
    first second
