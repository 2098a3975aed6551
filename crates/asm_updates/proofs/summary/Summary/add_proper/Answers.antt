use Rattle.std.proofs.Common.{◌<◌, ◌∙◌, ap, refl, subst, sym, rules}
use Rattle.asm_state.specs.Signature.{location_at}
use Rattle.asm_state.specs.Updates.{one}
use Rattle.asm_updates.specs.code.SummaryRanges.{SummaryRanges, range, AreRanges}
use Rattle.asm_updates.proofs.StandingSummaries.{stands_with, value_range, value_alone}
use Rattle.asm_updates.proofs.Marks.{marks_with, unmarked}
use Rattle.asm_updates.proofs.summary.Summary.add_proper.Goals as goal

pub invariant_of-self-2 : goal.invariant_of-self-2
invariant_of-self-2 c =
    c.widen_by-has_two.ensures.sound c.self.inside.count
    (subst (λ (s : SummaryRanges). c.args.n < s.count) (sym c.self.view_is) c.requires)
    (subst (AreRanges c.self.inside.count) (sym c.reserve.ensures.same) c.self.invariant)

pub returns-clause-value : goal.returns-clause-value
returns-clause-value c = λ shape U proper first.
    let l = location_at shape c.args.n in
    stands_with shape c.args.self.now _ U (one l c.args.value) c.args.n (range (c.args.value, c.args.value)) c.requires (search rules) (search rules)
    (marks_with shape c.args.self.now c.widen_by-has_two.new.self.entries c.args.n (range (c.args.value, c.args.value)) c.is_either-mark.result
    (λ off. ap (λ (s : SummaryRanges). s.may_fault) (sym c.self.view_is) ∙ unmarked c.self.inside.may_fault c.self.inside.ranges.entries (c.is_either-mark.ensures.first off))
    (λ off. c.widen_by-has_two.ensures.alike (c.is_either-mark.ensures.second off)) (search rules) proper first.marks_faults)
    first
    (value_range l c.args.value c.args.value refl)
    (value_alone l c.args.value)
