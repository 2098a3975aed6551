-- The set before a sequence, with the sequence's own set added.
use Rattle.std.proofs.Common.{ap, subst, sym}
use Rattle.asm_state.specs.Updates.{together, widen}
use Rattle.asm_updates.specs.code.SummaryRanges.{summary_range}
use Rattle.asm_updates.specs.code.Stands.{Stands}
use Rattle.asm_updates.proofs.StandingLaws.{standing_laws}
use Rattle.asm_eval.proofs.spare_sets.put_back.Goals as goal

pub returns-clause-adds : goal.returns-clause-adds
returns-clause-adds c shape V stands U was = c.in_ok-union.ensures.union shape U V (subst (λ s. Stands shape s U) (sym c.replace-last-2.ensures.after) was) stands

-- if nothing was formed before, the sequence's set is all
pub returns-then-is_empty-clause-adds : goal.returns-then-is_empty-clause-adds
returns-then-is_empty-clause-adds c shape V stands U was =
    let none = c.is_empty.ensures.entries.0 c.if-is_empty.true in
    subst (λ s. Stands shape s (together U V)) (sym c.replace-last.ensures.after)
    (standing_laws.of_union shape c.args.before c.args.so_far c.args.so_far U V c.requires
    (λ n. sym (ap (λ r. widen r (summary_range c.args.so_far n)) (none n))) stands.marks_faults was stands)
