use Rattle.std.proofs.Common.{drop, ◌+◌, subst, ◌∙◌, arith}
use Rattle.asm_state.specs.Updates.{widen}
use Rattle.asm_updates.specs.code.SummaryRanges.{first_range, AreRanges}
use Rattle.asm_updates.proofs.RangesFound.{AreEntries-head, one_more}
use Rattle.asm_updates.proofs.IndexedRanges.{AreEntries-drop, drop_one}
use Rattle.asm_updates.proofs.Marks.{one_value_more}
use Rattle.asm_updates.proofs.RangesOfTwo.{widen-none}
use Rattle.asm_updates.proofs.summary.widen_all.Goals as goal

pub loop-i-preserved : goal.loop-i-preserved
loop-i-preserved c =
    let es = c.args.others.now.ranges in
    let count = c.args.others.now.count in
    let i = c.loop-i.i in
    let e = c.entry_at-n.result in
    let at = c.loop-i.invariant in
    let left = drop_one es i (e.0, (e.1, e.2)) c.entry_at-n.ensures.position in
    let rest = AreEntries-drop count i es at.own in
    let first = AreEntries-head count (e.0, (e.1, e.2)) (drop (i + 1) es) (subst (AreRanges count) left rest) in record {
      room = omega (arith, c.widen-has_two.ensures.room, at.room);
      own = at.own;
      sound = c.widen-has_two.ensures.sound count first.in_range first.ordered at.sound;
      entries = λ k.
          one_more widen widen-none (drop i es) (drop (i + 1) es) e.0 (e.1, e.2) left rest.unique
          (first_range c.loop-i.ranges.entries) (first_range c.widen-has_two.new.self.entries) c.widen-has_two.ensures.entries k
          ∙ at.entries k;
      alike = λ off k was.
          one_value_more (first_range c.loop-i.ranges.entries) (first_range c.widen-has_two.new.self.entries) e.0 _ c.widen-has_two.ensures.entries (c.widen-has_two.ensures.alike (c.is_either-some_have_two.ensures.second off)) k
          (at.alike (c.is_either-some_have_two.ensures.first off) k was);
    }
