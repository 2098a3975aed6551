use Rattle.std.proofs.Common.{◌≡◌, ◌∙◌, ◌<◌, ◌≤◌, Bool, ℕ, not, ap, arith, length}
use Rattle.std.proofs.lemmas.List.{length-set}
use Rattle.asm_state.specs.Operation.{is_same}
use Rattle.asm_state.specs.Signature.{location_at, state_of}
use Rattle.asm_explore_table.proofs.ChangeLists.{noted_done, noted_left}
use Rattle.asm_explore_table.proofs.changes.note_changes.Goals as goal

pub loop-n-preserved : goal.loop-n-preserved
loop-n-preserved c =
    let n = c.loop-n.n in
    let now = c.loop-n.changed in
    let old = c.args.changed.now in
    let b : Bool = not c.is_same_value-is_same.result in
    let low : n < length now = omega (arith, c.loop-n-test.true, c.loop-n.invariant.whole) in
    let here : n ≤ n = omega arith in
    record {
      whole = length-set now n _ ∙ c.loop-n.invariant.whole;
      done = λ shape before after.
          let differs : ℕ → Bool = λ k. not (is_same (state_of shape c.args.before.now (location_at shape k)) (state_of shape c.args.after.now (location_at shape k))) in
          let is : b ≡ differs n = ap not (c.is_same_value-is_same.ensures ∙ (λ j. is_same (c.content.ensures.location shape before j) (c.content-in-loop-n.ensures.location shape after j))) in
          noted_done now n low b old differs is (c.loop-n.invariant.done shape before after) (c.loop-n.invariant.left n here);
      left = noted_left now n low b old c.loop-n.invariant.left;
    }
