use Rattle.std.proofs.Common.{◌<◌, length, ap, sym, subst, ◌∙◌}
use Rattle.asm_updates.specs.code.SummaryRanges.{first_range}
use Rattle.asm_updates.specs.code.IndexedRanges.{IndexedRanges}
use Rattle.asm_updates.proofs.IndexedRanges.{found-read}
use Rattle.asm_updates.proofs.ranges.Ranges.entry_at.Goals as goal

pub returns-clause-found : goal.returns-clause-found
returns-clause-found c =
    ap (λ (l : IndexedRanges). first_range l.entries c.index.result.now.0) (sym c.self.view_is)
    ∙ found-read c.self.inside.entries.items c.args.i c.index.result.now c.self.invariant.unique (subst (λ (l : IndexedRanges). c.args.i < length l.entries) (sym c.self.view_is) c.requires) c.index.ensures
