use Rattle.std.proofs.Common.{◌+◌, ◌∙◌, ◌++◌, ◌∷◌, [], ap, cond, map, sym, take}
use Rattle.std.specs.Str.Lines.{strip_carriage_return}
use Rattle.asm_explore_run.specs.UnmetLines.{unmet_line}
use Rattle.asm_explore_run.specs.code.LineKeys.{has_said, left_from}
use Rattle.asm_explore_run.proofs.UnmetTexts.{counted, left_more, line_more}
use Rattle.asm_explore_run.proofs.unmet_lines.said_of_left.Goals as goal

pub loop-i-preserved : goal.loop-i-preserved
loop-i-preserved c =
    let lines = c.args.lines.now in
    let keys = c.args.keys.now in
    let i = c.loop-i.i in
    let line = c.without_return.result.now in
    let before = map (λ l. strip_carriage_return l.now) (take i lines) in
    c.in_ok-add_if_left.ensures ∙ ap (λ t. t ++ cond (has_said line keys) (unmet_line (i + 1) line ∷ []) []) c.loop-i.invariant
    ∙ ap (λ n. left_from 1 keys before ++ cond (has_said line keys) (unmet_line n line ∷ []) []) (sym (counted lines i c.loop-i-test.true))
    ∙ sym (left_more 1 keys before line)
    ∙ ap (left_from 1 keys) (sym (line_more lines i _ line c.loop-i-test.true c.without_return.ensures))
