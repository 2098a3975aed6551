use Rattle.std.proofs.Common.{◌∙◌, ap, sym, subst, rules}
use Rattle.asm_updates.specs.code.SummaryRanges.{SummaryRanges, first_range}
use Rattle.asm_updates.specs.code.IndexedRanges.{HasOneValue}
use Rattle.asm_updates.proofs.StandingSummaries.{stands_for_union}
use Rattle.asm_updates.proofs.Marks.{marks_union}
use Rattle.asm_updates.proofs.summary.Summary.union.Goals as goal

pub returns-clause-union : goal.returns-clause-union
returns-clause-union c = λ shape U V first second.
    stands_for_union shape c.args.self.now c.args.other.now _ U V (search rules) (search rules)
    (marks_union shape c.args.self.now c.args.other.now c.widen_all-has_two.new.ranges.entries c.is_either-mark.result (λ off. c.is_marked_with-marked.ensures (c.is_either-mark.ensures.first off))
    (λ off k was. c.widen_all-has_two.ensures.alike (c.is_either-mark.ensures.second off) k (subst (λ es. HasOneValue (first_range es k)) (ap (λ (s : SummaryRanges). s.ranges) (sym c.self.view_is) ∙ sym c.reserve.ensures.same) was)) (search rules) first.marks_faults second.marks_faults)
    first second
