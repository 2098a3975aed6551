use Rattle.std.proofs.Common.{rules, ◌≡◌, ◌∙◌, ◌+◌, ◌-◌, ◌++◌, ap, codes, decimal}
use Rattle.std.specs.String.{string_bytes}
use Rattle.asm_explore_report.specs.Facts.{numbered_from}
use Rattle.asm_explore_report.proofs.ConditionLines.{number_more}
use Rattle.asm_explore_report.proofs.facts.looked_for.Goals as goal

pub loop-k-preserved : goal.loop-k-preserved
loop-k-preserved c =
    let k = c.loop-k.k in
    let n = c.args.conditions in
    let before = string_bytes c.loop-k.line in
    let shown : c.as_str.result.now ≡ codes ", condition " ++ decimal (k + 1) = search rules in
    ap (λ t. t ++ numbered_from (k + 1 + 1) (n - (k + 1))) (c.in_ok-push_str.ensures.bytes ∙ ap (λ t. before ++ t) shown)
    ∙ number_more before _ k n c.loop-k-test.true c.loop-k.invariant
