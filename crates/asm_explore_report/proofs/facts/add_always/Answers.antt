use Rattle.std.proofs.Common.{rules, ◌≡◌, ◌∙◌, ◌+◌, ◌∷◌, ◌++◌, [], drop, ap, codes, decimal}
use Rattle.std.specs.String.{string_bytes}
use Rattle.asm_explore_texts.specs.Conditions.{texts_of}
use Rattle.asm_explore_texts.specs.declared.conditions.Condition.{Condition}
use Rattle.asm_explore_texts.specs.Comments.{lines_of}
use Rattle.asm_explore_report.specs.Facts.{condition_line, lines_from}
use Rattle.asm_explore_report.proofs.ConditionLines.{line_more}
use Rattle.asm_explore_report.proofs.facts.add_always.Goals as goal

pub loop-k-preserved : goal.loop-k-preserved
loop-k-preserved c =
    let always = c.args.always.now in
    let k = c.loop-k.k in
    let name = string_bytes c.in_ok-name.name in
    let before = lines_of c.loop-k.lines.items in
    let rest = lines_from (k + 1 + 1) (texts_of (drop (k + 1) always)) in
    let named : name ≡ codes "condition " ++ decimal (k + 1) = search rules in
    ap (λ ls. ls ++ rest) (c.in_ok-add_condition.ensures ∙ ap (λ (one : Condition). before ++ condition_line name one.text.items ∷ []) c.index-always-k.is)
    ∙ line_more before _ always k _ name c.loop-k-test.true named c.loop-k.invariant
