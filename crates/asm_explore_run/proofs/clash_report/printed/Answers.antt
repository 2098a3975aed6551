use Rattle.std.proofs.Common.{◌∙◌, List, length, min, ap, sym, subst}
use Rattle.asm_syntax.specs.code.Views.{spec_of}
use Rattle.asm_run.specs.Written.{names_in}
use Rattle.asm_clash.specs.declared.assignment.Assignment.{Assignment}
use Rattle.asm_explore_run.specs.ClashText.{IsClashText, greatest_shown}
use Rattle.asm_explore_run.specs.RunReport.{assignments_in, count_in}
use Rattle.asm_explore_run.proofs.clash_report.printed.Goals as goal

pub clash_text-requires : goal.clash_text-requires
clash_text-requires c = ap length c.assignments-found.ensures ∙ c.requires ∙ ap (min greatest_shown) (sym c.count_of-count.ensures)

pub returns : goal.returns
returns c =
    let names = names_in (spec_of c.args.checked.now.spec) in
    let clash = c.args.clash.now in
    let told = c.args.told.now in
    let printed = c.in_ok-text.text.items in
    let first = c.as_slice-first.result.now in
    subst (λ line. IsClashText c.args.text.now names told.end line (assignments_in clash) (count_in clash) printed) c.as_slice-first.ensures.value
    (subst (λ n. IsClashText c.args.text.now names told.end first (assignments_in clash) n printed) c.count_of-count.ensures
    (subst (λ (all : List Assignment). IsClashText c.args.text.now names told.end first all c.count_of-count.result printed) c.assignments-found.ensures c.in_ok-text.ensures))
