use Rattle.std.proofs.Common.{◌<◌, ◌∙◌, arith, sym, ap}
use Rattle.std.specs.Prelude.{slice_index_or}
use Rattle.std.proofs.lemmas.List.{length-set}
use Rattle.asm_state.specs.declared.value.Value.TheVariants.{Undef}
use Rattle.asm_meaning.specs.Value.{is_true}
use Rattle.asm_eval.proofs.BlockLemmas.{keeps_more, keeps_less, read_at}
use Rattle.asm_eval.proofs.block.keep_tested.Goals as goal
use Rattle.asm_eval.proofs.block.keep_tested.Goals.{then-is_true, else-is_true}

pub loop-k-preserved : goal.loop-k-preserved
loop-k-preserved c =
    let a = c.args in
    let l = c.loop-k in
    let low : l.k < 16 = omega (arith, c.requires) in
    let test = read_at Undef a.tests.now l.k c.index-tests-k.result (omega (arith, low)) in
    elim c.if-is_true.branch [
      | then-is_true w ↦ rw (w.elements-is, w.kept-is) (record {
        room = length-set l.elements l.kept (slice_index_or l.elements l.k w.index-elements-k.result) ∙ l.invariant.room;
        behind = omega arith;
        so_far = λ p agree. keeps_more Undef p a.elements.now l.elements l.kept l.k (l.invariant.so_far p agree) (omega (arith, low))
            (sym (agree l.k c.loop-k-test.true) ∙ sym (ap is_true test) ∙ sym c.is_true.ensures ∙ w.if-is_true.true)
            (slice_index_or l.elements l.k w.index-elements-k.result) (read_at Undef l.elements l.k w.index-elements-k.result (omega (arith, low, l.invariant.room)))
            (omega (arith, low, l.invariant.room, l.invariant.behind)) l.invariant.behind;
      })
      | else-is_true w ↦ rw (w.elements-is, w.kept-is) (record {
        room = l.invariant.room;
        behind = omega arith;
        so_far = λ p agree. keeps_less Undef p a.elements.now l.elements l.kept l.k (l.invariant.so_far p agree) (omega (arith, low))
            (sym (agree l.k c.loop-k-test.true) ∙ sym (ap is_true test) ∙ sym c.is_true.ensures ∙ w.if-is_true.false);
      })
    ]
