use Rattle.std.proofs.Common.{◌∙◌, ℕ, ◌+◌, ap, drop, sym}
use Rattle.asm_explore_texts.specs.Positions.{after_feeds}
use Rattle.asm_explore_texts.proofs.LineStarts.{next_line, next_start}
use Rattle.asm_explore_texts.proofs.script_given.start_of_line.Goals as goal
use Rattle.asm_explore_texts.proofs.script_given.start_of_line.Goals.{then-text-at-eq10, else-text-at-eq10}

pub loop-at-preserved : goal.loop-at-preserved
loop-at-preserved c =
    let text = c.args.text.now in
    let at = c.loop-at.at in
    let behind = (λ (feeds : ℕ). at + 1 + after_feeds feeds (drop (at + 1) text)) in
    elim c.if-text-at-eq10.branch [
      | then-text-at-eq10 w ↦ next_line text at c.loop-at-test.true c.loop-at.before _ c.if-before-eq0.false c.loop-at.invariant w.if-text-at-eq10.true ∙ ap behind (sym w.before-is)
      | else-text-at-eq10 w ↦ next_start text at c.loop-at-test.true c.loop-at.before _ c.if-before-eq0.false c.loop-at.invariant w.if-text-at-eq10.false ∙ ap behind (sym w.before-is)
    ]
