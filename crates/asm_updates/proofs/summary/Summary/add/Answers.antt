use Rattle.std.proofs.Common.{◌<◌, subst, sym, rules}
use Rattle.asm_state.specs.Signature.{location_at}
use Rattle.asm_state.specs.Updates.{one, together}
use Rattle.asm_updates.specs.code.SummaryRanges.{SummaryRanges, range, AreRanges}
use Rattle.asm_updates.proofs.StandingSummaries.{stands_with, bounds_range, bounds_alone, value_range, value_alone}
use Rattle.asm_updates.proofs.Marks.{marks_any}
use Rattle.asm_updates.proofs.summary.Summary.add.Goals as goal

pub invariant_of-self-2 : goal.invariant_of-self-2
invariant_of-self-2 c =
    c.widen.ensures.sound c.self.inside.count
    (subst (λ (s : SummaryRanges). c.args.n < s.count) (sym c.self.view_is) c.requires.in_range)
    c.requires.ordered
    (subst (AreRanges c.self.inside.count) (sym c.reserve.ensures.same) c.self.invariant)

pub returns-clause-bounds : goal.returns-clause-bounds
returns-clause-bounds c = λ shape U first.
    let l = location_at shape c.args.n in
    stands_with shape c.args.self.now _ U (together (one l c.args.low) (one l c.args.high)) c.args.n (range (c.args.low, c.args.high)) c.requires.in_range (search rules) (search rules) (marks_any shape c.widen.new.self.entries) first
    (bounds_range l c.args.low c.args.high c.requires.ordered)
    (bounds_alone l c.args.low c.args.high)

pub returns-clause-value : goal.returns-clause-value
returns-clause-value c = λ shape U same first.
    let l = location_at shape c.args.n in
    stands_with shape c.args.self.now _ U (one l c.args.low) c.args.n (range (c.args.low, c.args.high)) c.requires.in_range (search rules) (search rules) (marks_any shape c.widen.new.self.entries) first
    (value_range l c.args.low c.args.high same)
    (value_alone l c.args.low)

pub returns-clause-marks : goal.returns-clause-marks
returns-clause-marks c = λ shape. marks_any shape c.widen.new.self.entries
