use Rattle.std.proofs.Common.{◌≡◌, ◌==◌, ◌∙◌, true, false, length, get_or, sym, ap, arith}
use Rattle.std.specs.Prelude.{◌∷◌, ◌++◌, [], slice_range}
use Rattle.asm_explore_texts.specs.Comments.{lines_of}
use Rattle.asm_explore_report.proofs.TraceText.{line_ends, line_goes_on, last_line, no_last_line}
use Rattle.asm_explore_report.proofs.trace_lines.add_lines.Goals as goal

pub loop-at-preserved-then-not-ends_line : goal.loop-at-preserved-then-not-ends_line
loop-at-preserved-then-not-ends_line c =
    let text = c.args.text.now in
    let k = c.loop-at.at in
    let other : (get_or text k 0 == 10) ≡ false = sym c.ends_line.ensures ∙ c.if-not-ends_line.true in
    let before = c.loop-at.invariant in
    (omega arith, line_goes_on text c.loop-at.start k 0 c.loop-at-test.true (lines_of c.loop-at.lines.items) _ before.0 other before.1)

pub loop-at-preserved : goal.loop-at-preserved
loop-at-preserved c =
    let text = c.args.text.now in
    let k = c.loop-at.at in
    let feed : (get_or text k 0 == 10) ≡ true = sym c.ends_line.ensures ∙ c.if-not-ends_line.false in
    let before = c.loop-at.invariant in
    (omega arith, line_ends text c.loop-at.start k 0 c.loop-at-test.true (lines_of c.loop-at.lines.items) (lines_of c.add_line.new.lines.items) _ feed before.1 c.in_ok-add_line.ensures)

pub returns-then-start-end : goal.returns-then-start-end
returns-then-start-end c =
    let before = c.loop-at.invariant in
    no_last_line c.args.text.now c.loop-at.start c.loop-at.at before.0 (omega arith) (omega arith) (lines_of c.loop-at.lines.items) _ (omega arith) before.1

pub returns : goal.returns
returns c =
    let before = c.loop-at.invariant in
    let all : length c.args.text.now ≡ c.loop-at.at = omega arith in
    c.in_ok-add_line-2.ensures ∙ (ap (λ n. lines_of c.loop-at.lines.items ++ slice_range c.args.text.now c.loop-at.start n ∷ []) all
    ∙ last_line c.args.text.now c.loop-at.start c.loop-at.at before.0 (omega arith) (omega arith) (lines_of c.loop-at.lines.items) _ (omega arith) before.1)
