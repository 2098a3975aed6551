use Rattle.std.proofs.Common.{◌∙◌, ◌++◌, ap, sym, take, append_assoc}
use Rattle.asm_syntax.specs.code.Views.{spec_of}
use Rattle.asm_run.specs.Trace.{value_text}
use Rattle.asm_run.specs.Written.{names_in}
use Rattle.asm_explore_table.specs.code.Commas.{comma}
use Rattle.asm_explore_table.specs.Tables.{joined_values}
use Rattle.asm_explore_table.proofs.TableLines.{joined_more}
use Rattle.asm_explore_table.proofs.heads.push_values.Goals as goal

pub loop-k-preserved : goal.loop-k-preserved
loop-k-preserved c =
    let s = spec_of c.args.checked.now.spec in
    let vs = c.args.values.now in
    let k = c.loop-k.k in
    let v = c.index-values-k.result in
    let head = c.args.head.now.items in
    let before = joined_values s (take k vs) in
    let text = value_text (names_in s).elements v in
    c.in_ok-push_value.ensures ∙ ap (λ t. t ++ text) (c.in_ok-push_comma.ensures ∙ ap (λ t. t ++ comma k) c.loop-k.invariant)
    ∙ append_assoc (head ++ before) (comma k) text ∙ append_assoc head before (comma k ++ text)
    ∙ ap (λ t. head ++ t) (sym (joined_more s vs k v c.loop-k-test.true c.index-values-k.is))
