use Rattle.std.proofs.Common.{◌≡◌, ◌∙◌, length, sym, ap, subst, arith}
use Rattle.std.specs.List.{list_all}
use Rattle.asm_explore_texts.specs.Positions.{is_name_at}
use Rattle.asm_explore_run.specs.ClashText.{AreApart}
use Rattle.asm_explore_run.specs.code.NameOffsets.{offsets}
use Rattle.asm_explore_run.proofs.BoundNames.{names_for}
use Rattle.asm_explore_run.proofs.assignment_line.are_names.Goals as goal

pub returns-then-is_name_at : goal.returns-then-is_name_at
returns-then-is_name_at c = λ are.
    let text = c.args.text.now in
    let rule = c.args.rule.now in
    let long : length rule.bound.items ≡ length c.args.values.now = omega (arith, c.if-len-values.false, c.len.ensures) in
    let all = sym (ap (λ names. list_all (λ name. is_name_at text name.now.at) names) c.as_slice-names.ensures.value) ∙ sym c.are_all_in.ensures ∙ are in
    let apart = subst (λ names. AreApart (offsets names)) c.as_slice-names.ensures.value (c.are_apart.ensures c.if-not-are_apart.false) in
    names_for text rule.name.now.at rule.bound.items c.args.values.now (sym c.is_name_at.ensures ∙ c.if-is_name_at.true) long all apart
