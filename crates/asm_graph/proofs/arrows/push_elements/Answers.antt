use Rattle.std.proofs.Common.{◌≡◌, ◌+◌, ◌++◌, ◌∙◌, ◌<◌, ap, append-nil, append_assoc, arith, codes, length, sym, take}
use Rattle.std.specs.List.{join_by}
use Rattle.std.proofs.lemmas.List.{length-take-le, take_all}
use Rattle.std.specs.Borrow.{Bor}
use Rattle.asm_syntax.specs.code.Views.{spec_of}
use Rattle.asm_syntax.specs.declared.name.Name.{Name}
use Rattle.asm_explore_texts.specs.code.TextPlaces.{elements_said}
use Rattle.asm_graph.specs.Arrows.{given_text}
use Rattle.asm_graph.proofs.DrawnArrows.{behind_elements, joined_first, joined_next, no_elements, said_count, said_more}
use Rattle.asm_graph.proofs.arrows.push_elements.Goals as goal
use Rattle.asm_graph.proofs.arrows.push_elements.Goals.{then-k-gt0+in_ok-extend_from_slice, else-k-gt0}

pub returns-then-count-eq0 : goal.returns-then-count-eq0
returns-then-count-eq0 c =
    let s = spec_of c.args.checked.now.spec in
    let xs = c.args.variables.now in
    let vs = c.args.elements.now in
    let none : length (elements_said xs vs) ≡ 0 = omega (arith, said_count xs vs, c.min-count.ensures, c.if-count-eq0.true) in
    sym (ap (λ t. c.args.label.now.items ++ t) (no_elements s (elements_said xs vs) none) ∙ append-nil c.args.label.now.items)

pub loop-k-preserved : goal.loop-k-preserved
loop-k-preserved c =
    let f = given_text (spec_of c.args.checked.now.spec) in
    let xs = c.args.variables.now in
    let vs = c.args.elements.now in
    let es = elements_said xs vs in
    let k = c.loop-k.k in
    let x = c.index-variables-k.result in
    let v = c.index-elements-k.result in
    let low : k < length xs = omega (arith, c.loop-k-test.true, c.min-count.ensures) in
    let few : k < length vs = omega (arith, c.loop-k-test.true, c.min-count.ensures) in
    let more = said_more xs vs k x v low few c.index-variables-k.is c.index-elements-k.is in
    let count : length (take k es) ≡ k = length-take-le k es (omega (arith, low, few, said_count xs vs)) in
    let name = c.as_bytes-name.ensures ∙ ap (λ (y : Bor Name). y.now.text) (sym c.index-variables-k.is) in
    let start = c.args.label.now.items in
    let old = c.loop-k.label.items in
    let new = c.push_given.new.label.items in
    elim c.if-k-gt0.branch [
      | then-k-gt0+in_ok-extend_from_slice w ↦
          joined_next f (codes ", ") (take k es) (take (k + 1) es) (x.now.text, v) more start old new c.loop-k.invariant (omega (arith, count, w.if-k-gt0.true))
          (c.in_ok-push_given.ensures ∙ ap (λ n. c.if-k-gt0.label.items ++ f (n, v)) name
          ∙ ap (λ t. t ++ f (x.now.text, v)) (ap (λ l. l.items) w.label-is ∙ w.in_ok-extend_from_slice.ensures.items))
      | else-k-gt0 w ↦
          joined_first f (codes ", ") (take k es) (take (k + 1) es) (x.now.text, v) more start old new c.loop-k.invariant (omega (arith, count, w.if-k-gt0.false))
          (c.in_ok-push_given.ensures ∙ ap (λ n. c.if-k-gt0.label.items ++ f (n, v)) name ∙ ap (λ t. t ++ f (x.now.text, v)) (ap (λ l. l.items) w.label-is))
    ]

pub returns : goal.returns
returns c =
    let s = spec_of c.args.checked.now.spec in
    let es = elements_said c.args.variables.now c.args.elements.now in
    let k = c.loop-k.k in
    let count = said_count c.args.variables.now c.args.elements.now in
    let start = c.args.label.now.items in
    let all : take k es ≡ es = take_all k es (omega (arith, count, c.min-count.ensures, c.loop-k-test.false)) in
    let some : 0 < length es = omega (arith, count, c.min-count.ensures, c.if-count-eq0.false) in
    c.in_ok-extend_from_slice-2.ensures.items ∙ ap (λ t. t ++ codes ": ") (c.loop-k.invariant ∙ ap (λ xs. start ++ join_by (given_text s) (codes ", ") xs) all)
    ∙ append_assoc start (join_by (given_text s) (codes ", ") es) (codes ": ") ∙ ap (λ t. start ++ t) (behind_elements s es some)
