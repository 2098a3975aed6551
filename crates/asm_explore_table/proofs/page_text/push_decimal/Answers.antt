use Rattle.std.proofs.Common.{◌∙◌, ◌++◌, ap}
use Rattle.asm_explore_table.proofs.PageTexts.{at_end}
use Rattle.asm_explore_table.proofs.page_text.push_decimal.Goals as goal

pub returns : goal.returns
returns c =
    let out = c.args.out.now.items in
    at_end c.extend_from_slice.result _ out _ _ c.extend_from_slice.ensures.items (ap (λ t. out ++ t) (c.as_bytes.ensures.value ∙ c.in_ok-digits.ensures.ok))
