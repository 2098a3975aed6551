use Rattle.std.proofs.Common.{◌<◌, ap, arith, inr, length}
use Rattle.std.proofs.lemmas.Result.{IfOk-weaker}
use Rattle.asm_explore.specs.RunChoices.{choices_in, lines_forward}
use Rattle.asm_explore_run.proofs.ShortLines.{said_length, too_many}
use Rattle.asm_explore_run.proofs.choices_report.printed.Goals as goal

pub returns-then-len-gt-MAX_LINES-clause-text : goal.returns-then-len-gt-MAX_LINES-clause-text
returns-then-len-gt-MAX_LINES-clause-text c =
    let lines = c.in_ok-lines.lines in
    let forward = lines_forward (choices_in c.args.run.now) in
    let many : 349_525 < length forward = omega (arith, c.if-len-gt-MAX_LINES.true, c.len.ensures, lines.ok.0, said_length lines.items, ap length c.in_ok-lines.ensures.lines) in
    IfOk-weaker c.first_alone.result _ _ (λ text is. inr (too_many c.args.first.now forward many, is)) c.first_alone.ensures

pub returns-then-len-gt-MAX_LINES-clause-says : goal.returns-then-len-gt-MAX_LINES-clause-says
returns-then-len-gt-MAX_LINES-clause-says c apart =
    let lines = c.in_ok-lines.lines in
    let forward = lines_forward (choices_in c.args.run.now) in
    let many : 349_525 < length forward = omega (arith, c.if-len-gt-MAX_LINES.true, c.len.ensures, lines.ok.0, said_length lines.items, ap length c.in_ok-lines.ensures.lines) in
    IfOk-weaker c.first_alone.result _ _ (λ text is. inr (too_many c.args.first.now forward many)) c.first_alone.ensures
