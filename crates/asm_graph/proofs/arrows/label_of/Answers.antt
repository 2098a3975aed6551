use Rattle.std.proofs.Common.{◌+◌, ◌++◌, ◌∙◌, [], ap, arith, codes, take}
use Rattle.asm_syntax.specs.code.Views.{spec_of}
use Rattle.asm_explore.specs.RunChoices.{asked_said}
use Rattle.asm_explore.specs.code.AskedPieces.{all_said}
use Rattle.asm_graph.specs.Arrows.{chosen_text}
use Rattle.asm_graph.proofs.DrawnArrows.{asked_count, asked_more, joined_first, joined_next}
use Rattle.asm_graph.proofs.arrows.label_of.Goals as goal
use Rattle.asm_graph.proofs.arrows.label_of.Goals.{then-k-gt0+in_ok-extend_from_slice, else-k-gt0}

pub loop-k-preserved : goal.loop-k-preserved
loop-k-preserved c =
    let f = chosen_text (spec_of c.args.checked.now.spec) in
    let asked = c.args.asked.now in
    let k = c.loop-k.k in
    let a = c.index-asked-k.result in
    let low = c.loop-k-test.true in
    let ys = all_said (take k asked) in
    let more = asked_more asked k a low c.index-asked-k.is in
    let count = asked_count asked k low in
    let old = c.loop-k.label.items in
    let new = c.push_chosen.new.label.items in
    elim c.if-k-gt0.branch [
      | then-k-gt0+in_ok-extend_from_slice w ↦
          joined_next f (codes "\n") ys (all_said (take (k + 1) asked)) (asked_said a) more [] old new c.loop-k.invariant (omega (arith, count, w.if-k-gt0.true))
          (c.in_ok-push_chosen.ensures ∙ ap (λ t. t ++ f (asked_said a)) (ap (λ l. l.items) w.label-is ∙ w.in_ok-extend_from_slice.ensures.items))
      | else-k-gt0 w ↦
          joined_first f (codes "\n") ys (all_said (take (k + 1) asked)) (asked_said a) more [] old new c.loop-k.invariant (omega (arith, count, w.if-k-gt0.false))
          (c.in_ok-push_chosen.ensures ∙ ap (λ t. t ++ f (asked_said a)) (ap (λ l. l.items) w.label-is))
    ]
