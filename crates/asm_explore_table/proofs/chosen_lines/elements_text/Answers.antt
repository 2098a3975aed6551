use Rattle.std.proofs.Common.{◌∙◌, ◌+◌, ◌++◌, ◌<◌, ◌≤◌, Bor, ap, arith, drop, length, subst, sym, append-nil, append_assoc}
use Rattle.asm_syntax.specs.code.Views.{spec_of}
use Rattle.asm_syntax.specs.declared.name.Name.{Name}
use Rattle.asm_explore_texts.specs.code.TextPlaces.{elements_said}
use Rattle.asm_explore_table.specs.ChosenTexts.{given_text}
use Rattle.asm_explore_table.specs.code.Commas.{comma}
use Rattle.asm_explore_table.proofs.TableLines.{rest_next, rest_none, rest_of}
use Rattle.asm_explore_table.proofs.chosen_lines.elements_text.Goals as goal

pub loop-k-preserved : goal.loop-k-preserved
loop-k-preserved c =
    let s = spec_of c.args.checked.now.spec in
    let xs = c.args.variables.now in
    let vs = c.args.elements.now in
    let k = c.loop-k.k in
    let x = c.index-variables-k.result in
    let v = c.index-elements-k.result in
    let old = c.loop-k.text.items in
    let name = c.as_bytes.ensures ∙ ap (λ (y : Bor Name). y.now.text) (sym c.index-variables-k.is) in
    let given = given_text s x.now.text v in
    let left = rest_of s (k + 1) (elements_said (drop (k + 1) xs) (drop (k + 1) vs)) in
    let low : k < length xs = omega (arith, c.loop-k-test.true, c.min-k-end.ensures) in
    let small : k < length vs = omega (arith, c.loop-k-test.true, c.min-k-end.ensures) in
    ap (λ t. t ++ left) (c.in_ok-push_given.ensures ∙ (λ j. c.in_ok-push_comma.ensures j ++ given_text s (name j) v) ∙ append_assoc old (comma k) given)
    ∙ append_assoc old (comma k ++ given) left ∙ ap (λ t. old ++ t) (sym (rest_next s xs vs k x v low small c.index-variables-k.is c.index-elements-k.is)) ∙ c.loop-k.invariant

pub returns : goal.returns
returns c =
    let s = spec_of c.args.checked.now.spec in
    let xs = c.args.variables.now in
    let vs = c.args.elements.now in
    let k = c.loop-k.k in
    sym (append-nil c.loop-k.text.items) ∙ ap (λ t. c.loop-k.text.items ++ t) (sym (rest_none s xs vs k (subst (λ n. n ≤ c.loop-k.k) c.min-k-end.ensures c.loop-k-test.false))) ∙ c.loop-k.invariant
