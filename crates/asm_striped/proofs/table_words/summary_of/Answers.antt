use Rattle.std.proofs.Common.{◌+◌, sym, subst}
use Rattle.std.specs.Mem.Slots.{slots_items}
use Rattle.asm_updates.specs.code.Stands.{MarksFaults}
use Rattle.asm_striped.proofs.FilledSummaries.{IsFilled, read_bounds, filled_skip, filled_add}
use Rattle.asm_striped.proofs.table_words.summary_of.Goals as goal
use Rattle.asm_striped.proofs.table_words.summary_of.Goals.{in-Some+in_ok-add, in_default}

pub values_of-requires : goal.values_of-requires
values_of-requires c =
    read_bounds (slots_items c.args.closed.now.words) c.loop-n.n c.args.count c.word-low.result c.word-high.result
    c.loop-n-test.true c.requires.bounds c.word-low.ensures c.word-high.ensures

pub loop-n-preserved : goal.loop-n-preserved
loop-n-preserved c =
    let words = slots_items c.args.closed.now.words in
    let n = c.loop-n.n in
    elim c.match-values_of.branch [
      | in-Some+in_ok-add w ↦ record {
        filled = subst (IsFilled words (n + 1) c.args.count) (sym w.summary-is)
            (filled_add words n c.args.count c.word-low.result c.word-high.result c.loop-n.summary c.loop-n.invariant.filled c.word-low.ensures c.word-high.ensures
            _ w.in-Some.bounds w.in-Some.ensures.words w.add.ensures.changes.count w.in_ok-add.ensures.changes.entries);
        marks = λ shape. subst (MarksFaults shape) (sym w.summary-is) (w.in_ok-add.ensures.marks shape);
      }
      | in_default w ↦ record {
        filled = subst (IsFilled words (n + 1) c.args.count) (sym w.summary-is)
            (filled_skip words n c.args.count c.word-low.result c.word-high.result c.loop-n.summary c.loop-n.invariant.filled c.word-low.ensures c.word-high.ensures
            w.in_default.ensures.words);
        marks = λ shape. subst (MarksFaults shape) (sym w.summary-is) (c.loop-n.invariant.marks shape);
      }
    ]
