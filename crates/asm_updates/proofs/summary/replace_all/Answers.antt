use Rattle.std.proofs.Common.{nat_eq, drop, ◌+◌, refl, ap, sym, subst, ◌∙◌, arith}
use Rattle.std.specs.List.{IsDistinct}
use Rattle.std.specs.Map.{keys_of}
use Rattle.asm_state.specs.Updates.{later_range}
use Rattle.asm_updates.specs.code.SummaryRanges.{first_range, AreRanges}
use Rattle.asm_updates.proofs.RangesFound.{found-put, AreEntries-put, AreEntries-head, one_more}
use Rattle.asm_updates.proofs.IndexedRanges.{AreEntries-drop, drop_one}
use Rattle.asm_updates.proofs.summary.replace_all.Goals as goal

pub loop-i-preserved : goal.loop-i-preserved
loop-i-preserved c =
    let es = c.args.later.now.ranges in
    let count = c.args.later.now.count in
    let i = c.loop-i.i in
    let e = c.entry_at-n.result in
    let at = c.loop-i.invariant in
    let left = drop_one es i (e.0, (e.1, e.2)) c.entry_at-n.ensures.position in
    let rest = AreEntries-drop count i es at.own in
    let first = AreEntries-head count (e.0, (e.1, e.2)) (drop (i + 1) es) (subst (AreRanges count) left rest) in
    let now = c.insert.ensures.entries in record {
      room = omega (arith, c.insert.ensures.room, at.room);
      own = at.own;
      sound = subst (AreRanges count) (sym now)
          (AreEntries-put count c.loop-i.ranges.entries e.0 (e.1, e.2) (subst (λ fs. IsDistinct nat_eq (keys_of fs)) now c.insert.ensures.unique) first.in_range first.ordered at.sound);
      entries = λ k.
          one_more later_range (λ r. refl) (drop i es) (drop (i + 1) es) e.0 (e.1, e.2) left rest.unique
          (first_range c.loop-i.ranges.entries) (first_range c.insert.new.self.entries)
          (λ q. ap (λ fs. first_range fs q) now ∙ found-put c.loop-i.ranges.entries e.0 (e.1, e.2) q) k
          ∙ at.entries k;
    }
