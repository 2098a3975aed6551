use Rattle.std.proofs.Common.{nat_eq, ◌<◌, ◌∙◌, ap, refl, subst, sym, rules}
use Rattle.std.specs.List.{IsDistinct}
use Rattle.std.specs.Map.{keys_of}
use Rattle.asm_state.specs.Signature.{location_at}
use Rattle.asm_state.specs.Updates.{one}
use Rattle.asm_updates.specs.code.SummaryRanges.{SummaryRanges, first_range, range, AreRanges}
use Rattle.asm_updates.proofs.RangesFound.{AreEntries-put, found-put}
use Rattle.asm_updates.proofs.StandingSummaries.{stands_behind, value_range, value_alone}
use Rattle.asm_updates.proofs.Marks.{marks_behind, unmarked}
use Rattle.asm_updates.proofs.summary.Summary.merge_proper.Goals as goal

pub invariant_of-self-2 : goal.invariant_of-self-2
invariant_of-self-2 c =
    let before = subst (AreRanges c.self.inside.count) (sym c.reserve.ensures.same) c.self.invariant in
    subst (AreRanges c.self.inside.count) (sym c.insert.ensures.entries)
    (AreEntries-put c.self.inside.count _ c.args.n (c.args.value, c.args.value) (subst (λ es. IsDistinct nat_eq (keys_of es)) c.insert.ensures.entries c.insert.ensures.unique)
    (subst (λ (s : SummaryRanges). c.args.n < s.count) (sym c.self.view_is) c.requires) (search rules) before)

pub returns-clause-changes : goal.returns-clause-changes
returns-clause-changes c = record {
  count = ap (λ (s : SummaryRanges). s.count) c.self.view_is;
  entries = λ k. ap (λ es. first_range es k) c.insert.ensures.entries ∙ found-put _ c.args.n (c.args.value, c.args.value) k ∙ search rules;
  err = tt;
}

pub returns-clause-merge : goal.returns-clause-merge
returns-clause-merge c = λ shape U proper first.
    let l = location_at shape c.args.n in
    stands_behind shape c.args.self.now _ U (one l c.args.value) c.args.n (range (c.args.value, c.args.value)) c.requires (search rules)
    (λ k. ap (λ es. first_range es k) c.insert.ensures.entries ∙ found-put _ c.args.n (c.args.value, c.args.value) k ∙ search rules)
    (marks_behind shape c.args.self.now c.insert.new.self.entries c.args.n c.args.value c.self.inside.may_fault
    (λ off. ap (λ (s : SummaryRanges). s.may_fault) (sym c.self.view_is) ∙ unmarked c.self.inside.may_fault c.self.inside.ranges.entries off)
    (λ k. ap (λ es. first_range es k) c.insert.ensures.entries ∙ found-put _ c.args.n (c.args.value, c.args.value) k ∙ search rules)
    proper first.marks_faults)
    first
    (value_range l c.args.value c.args.value refl)
    (value_alone l c.args.value)
