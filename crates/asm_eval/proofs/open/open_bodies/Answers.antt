use Rattle.std.proofs.Common.{◌∙◌, ◌∷◌, ◌++◌, ◌+◌, length, map, Some, None, ap, sym, subst, All, arith}
use Rattle.std.specs.Prelude.{option_map}
use Rattle.std.proofs.lemmas.List.{length-map, length_push}
use Rattle.std.proofs.lemmas.List.Elements.{All-nil}
use Rattle.asm_state.specs.Words.{value_of_code}
use Rattle.asm_code.specs.code.CodeViews.{code_of}
use Rattle.asm_code.specs.code.Readings.{always, universe_at}
use Rattle.asm_code.specs.code.RuleViews.{rule_of}
use Rattle.asm_eval.proofs.Lists.{all_more}
use Rattle.asm_eval.proofs.OpenedRules.{bodies_from, body_more, body_passed, given, no_bodies, none_left, none_yet, one_more}
use Rattle.asm_eval.proofs.RuleYields.{value_here}
use Rattle.asm_eval.specs.code.Frames.{readings_of}
use Rattle.asm_eval.specs.code.Opening.{all_of, counted_works, work_of}
use Rattle.asm_eval.specs.code.Pieces.{IsPiece}
use Rattle.asm_eval.specs.code.Evaluation.{frame_locations, evaluation_shape, evaluation_state}
use Rattle.asm_eval.proofs.open.open_bodies.Goals as goal
use Rattle.asm_eval.proofs.open.open_bodies.Goals.{then-passes+in_ok-below+in_ok-push, else-passes}

pub loop-i-init : goal.loop-i-init
loop-i-init g c =
    let a = c.args in
    let r = a.evaluation.now in
    let shape = evaluation_shape r in
    let none = c.new-pieces.ensures.items in
    let all = bodies_from shape (evaluation_state r) (option_map code_of a.test.now) (rule_of a.body.now) (readings_of shape a.frame.now) (frame_locations shape a.frame.now) a.path.now a.to (universe_at shape a.over) a.from in
    record {
      low = omega arith;
      few = omega arith;
      counted = sym (ap length none);
      works = none_yet (work_of shape) _ all none;
      are_pieces = subst (All (IsPiece shape)) (sym none) (All-nil (IsPiece shape));
    }

pub loop-i-preserved : goal.loop-i-preserved
loop-i-preserved g c =
    let a = c.args in
    let r = a.evaluation.now in
    let shape = evaluation_shape r in
    let A = evaluation_state r in
    let l = c.loop-i in
    let rs = readings_of shape a.frame.now in
    let ls = frame_locations shape a.frame.now in
    let us = universe_at shape a.over in
    let test = option_map code_of a.test.now in
    let body = rule_of a.body.now in
    let v = value_of_code c.unbranded_code.result.value in
    let there = value_here shape.universes a.over c.universe-universe.result.now l.i v c.universe-universe.ensures (c.element.ensures ∙ ap Some (sym c.unbranded_code.ensures)) in
    let rest = bodies_from shape A test body rs ls a.path.now a.to us in
    elim c.if-passes.branch [
      | then-passes+in_ok-below+in_ok-push w ↦
          let more = ap (λ v. v.items) w.pieces-is ∙ w.in_ok-push.ensures.items in
          let longer = ap length more ∙ length_push l.pieces.items _ in
          let counted = l.invariant.counted in
          record {
            low = omega (arith, l.invariant.low);
            few = omega (arith, l.invariant.few, w.instances-is);
            counted = w.instances-is ∙ ap (λ n. n + 1) counted ∙ sym longer;
            works = one_more (work_of shape) l.pieces.items c.if-passes.pieces.items _ (rest (l.i + 1)) more
                ∙ ap (λ q. map (work_of shape) l.pieces.items ++ all_of body (always v ∷ rs) (None ∷ ls) q ∷ rest (l.i + 1)) w.in_ok-below.ensures
                ∙ ap (λ ws. map (work_of shape) l.pieces.items ++ ws) (body_more shape A test body rs ls a.path.now a.to us l.i v c.loop-i-test.true there (sym w.if-passes.true ∙ c.passes.ensures))
                ∙ l.invariant.works;
            are_pieces = all_more (IsPiece shape) _ _ _ more l.invariant.are_pieces (c.requires.sound, c.requires.framed, tt);
          }
      | else-passes w ↦
          let same = ap (λ v. v.items) w.pieces-is in
          record {
            low = omega (arith, l.invariant.low);
            few = omega (arith, l.invariant.few, w.instances-is);
            counted = w.instances-is ∙ l.invariant.counted ∙ sym (ap length same);
            works = ap (λ ps. map (work_of shape) ps ++ rest (l.i + 1)) same
                ∙ ap (λ ws. map (work_of shape) l.pieces.items ++ ws) (body_passed shape A test body rs ls a.path.now a.to us l.i v c.loop-i-test.true there (sym w.if-passes.false ∙ c.passes.ensures))
                ∙ l.invariant.works;
            are_pieces = subst (All (IsPiece shape)) (sym same) l.invariant.are_pieces;
          }
    ]

pub returns : goal.returns
returns g c =
    let a = c.args in
    let r = a.evaluation.now in
    let shape = evaluation_shape r in
    let l = c.loop-i in
    let none = no_bodies shape (evaluation_state r) (option_map code_of a.test.now) (rule_of a.body.now) (readings_of shape a.frame.now) (frame_locations shape a.frame.now) a.path.now a.to (universe_at shape a.over) l.i (omega (arith, c.loop-i-test.false)) in
    record {
      works = ap (λ n. given n (map (work_of shape) l.pieces.items)) (l.invariant.counted ∙ sym (length-map l.pieces.items (work_of shape)))
          ∙ ap counted_works (none_left (work_of shape) l.pieces.items _ _ none l.invariant.works);
      are_pieces = l.invariant.are_pieces;
    }
