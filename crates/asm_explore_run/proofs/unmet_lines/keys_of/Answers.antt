use Rattle.std.proofs.Common.{◌∙◌, ap, map, take}
use Rattle.std.specs.Str.Lines.{strip_carriage_return}
use Rattle.asm_explore_run.specs.code.LineKeys.{have_lines}
use Rattle.asm_explore_run.proofs.KeySets.{kept_all, one_more}
use Rattle.asm_explore_run.proofs.UnmetTexts.{line_more}
use Rattle.asm_explore_run.proofs.unmet_lines.keys_of.Goals as goal

pub loop-i-preserved : goal.loop-i-preserved
loop-i-preserved c =
    let lines = c.args.lines.now in
    let i = c.loop-i.i in
    let before = map (λ l. strip_carriage_return l.now) (take i lines) in
    let added = c.in_ok-add_line.ensures in
    let kept = kept_all c.loop-i.keys c.add_line.new.keys added.kept before c.loop-i.invariant in
    ap (have_lines c.add_line.new.keys) (line_more lines i _ c.without_return.result.now c.loop-i-test.true c.without_return.ensures)
    ∙ one_more c.add_line.new.keys before c.without_return.result.now kept added.added
