use Rattle.std.proofs.Common.{ap, sym, subst, ◌∙◌}
use Rattle.asm_updates.specs.code.SummaryRanges.{first_range}
use Rattle.asm_updates.specs.code.IndexedRanges.{IndexedRanges, IsAt}
use Rattle.asm_updates.proofs.IndexedRanges.{found-at}
use Rattle.asm_updates.proofs.ranges.Ranges.get.Goals as goal

pub returns-in-Some : goal.returns-in-Some
returns-in-Some c =
    sym (found-at c.self.inside.entries.items c.in-Some.i c.args.n c.index.result.now c.self.invariant.unique
    (subst (λ (l : IndexedRanges). IsAt l.entries c.in-Some.i c.args.n) (sym c.self.view_is) c.in-Some.ensures.some) c.index.ensures)
    ∙ ap (λ (l : IndexedRanges). first_range l.entries c.args.n) c.self.view_is
