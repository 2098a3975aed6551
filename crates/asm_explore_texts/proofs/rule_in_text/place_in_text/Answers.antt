use Rattle.std.proofs.Common.{◌∙◌, ◌+◌, None, sym, drop, arith}
use Rattle.asm_syntax.specs.code.Views.{spec_of}
use Rattle.asm_explore_texts.specs.code.TextPlaces.{place_said}
use Rattle.asm_explore_texts.proofs.RuleNumbers.{leads_nowhere, leads_on}
use Rattle.asm_explore_texts.proofs.rule_in_text.place_in_text.Goals as goal

pub returns-then-not-branch : goal.returns-then-not-branch
returns-then-not-branch c =
    let s = spec_of c.args.checked.now.spec in
    let path = c.args.path.now in
    let k = c.loop-k.k in
    let none = c.in_ok-go_on.ensures.off c.if-not-branch.true in
    sym (leads_nowhere s (drop (k + 1) path)) ∙ (sym (leads_on s path k (place_said c.loop-k.place) None (omega (arith, c.loop-k-test.true)) none) ∙ c.loop-k.invariant.leads)
