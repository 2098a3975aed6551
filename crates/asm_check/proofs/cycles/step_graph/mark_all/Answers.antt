use Rattle.std.proofs.Common.{◌≡◌, ◌<◌, ℕ, Bool, false, List, length, get_or, sym, ap, subst, ◌∙◌, arith}
use Rattle.std.proofs.lemmas.List.{take_more, get_or_read}
use Rattle.std.specs.Global.{Vec}
use Rattle.asm_check.specs.code.cycles.MarkedNodes.{HasMarked, is_marked}
use Rattle.asm_check.proofs.CycleLemmas.MarkedNodes.{marked_already, marked_now}
use Rattle.asm_check.proofs.cycles.step_graph.mark_all.Goals as goal
use Rattle.asm_check.proofs.cycles.step_graph.mark_all.Goals.{then-not-index+in_ok-push, else-not-index}

-- the same, at other lists that are equal
moved : (ns ns' : List ℕ) (old : List Bool) (before : List ℕ) (new new' : List Bool) (after after' : List ℕ) → ns' ≡ ns → new' ≡ new → after' ≡ after → HasMarked ns old before new after → HasMarked ns' old before new' after'
moved ns ns' old before new new' after after' n m a is =
    subst (λ x. HasMarked x old before new' after') (sym n) (subst (λ x. HasMarked ns old before x after') (sym m) (subst (HasMarked ns old before new) (sym a) is))

read_as : (marks : List Bool) (n : ℕ) (r b : Bool) → n < length marks → r ≡ get_or marks n r → r ≡ b → is_marked marks n ≡ b
read_as marks n r b within read is = sym (get_or_read marks n r within read false) ∙ is

pub loop-node-preserved : goal.loop-node-preserved
loop-node-preserved c =
    let more = take_more c.args.nodes.now c.loop-node.node-index 0 c.loop-node-test.true in
    let first : get_or c.args.nodes.now c.loop-node.node-index 0 < length c.args.marks.now.items = c.requires c.loop-node.node-index 0 c.loop-node-test.true in
    let within : get_or c.args.nodes.now c.loop-node.node-index 0 < length c.loop-node.marks.items = omega (arith, c.loop-node.invariant.len) in
    elim c.if-not-index.branch [
      | then-not-index+in_ok-push w ↦
          moved _ _ _ _ _ _ _ _ more (ap (λ (v : Vec Bool). v.items) w.marks-is) (ap (λ (v : Vec ℕ). v.items) w.waiting-is ∙ w.in_ok-push.ensures.items)
          (marked_now _ _ _ _ _ c.loop-node.invariant _ within (read_as _ _ _ _ within c.index.ensures w.if-not-index.true))
      | else-not-index w ↦
          moved _ _ _ _ _ _ _ _ more (ap (λ (v : Vec Bool). v.items) w.marks-is) (ap (λ (v : Vec ℕ). v.items) w.waiting-is)
          (marked_already _ _ _ _ _ c.loop-node.invariant _ (read_as _ _ _ _ within c.index.ensures w.if-not-index.false))
    ]
