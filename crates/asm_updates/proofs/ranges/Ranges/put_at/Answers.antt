use Rattle.std.proofs.Common.{ap, sym, subst, ◌∙◌}
use Rattle.asm_updates.specs.code.IndexedRanges.{IndexedRanges, IsAt, put}
use Rattle.asm_updates.proofs.IndexedRanges.{AreListed-put_at, put-at}
use Rattle.asm_updates.proofs.ranges.Ranges.put_at.Goals as goal

pub invariant_of-self : goal.invariant_of-self
invariant_of-self c =
    AreListed-put_at c.self.inside.entries.items c.self.inside.placed _ c.args.i c.args.n c.args.bounds
    (subst (λ (l : IndexedRanges). IsAt l.entries c.args.i c.args.n) (sym c.self.view_is) c.requires) c.self.invariant

pub returns-clause-entries : goal.returns-clause-entries
returns-clause-entries c =
    put-at c.self.inside.entries.items c.args.i c.args.n c.args.bounds c.self.invariant.unique
    (subst (λ (l : IndexedRanges). IsAt l.entries c.args.i c.args.n) (sym c.self.view_is) c.requires)
    ∙ ap (λ (l : IndexedRanges). put l.entries c.args.n c.args.bounds) c.self.view_is

pub returns-clause-unique : goal.returns-clause-unique
returns-clause-unique c = (invariant_of-self c).unique
