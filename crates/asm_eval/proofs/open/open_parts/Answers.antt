use Rattle.std.proofs.Common.{◌∙◌, ◌∷◌, ◌++◌, ◌+◌, drop, map, ap, sym, subst, All, arith}
use Rattle.std.proofs.lemmas.List.Elements.{All-nil}
use Rattle.asm_code.specs.code.RuleViews.{rule_of}
use Rattle.asm_eval.proofs.Lists.{all_more}
use Rattle.asm_eval.proofs.OpenedRules.{given, no_parts, none_left, none_yet, one_more, parts_from, parts_more}
use Rattle.asm_eval.proofs.RuleYields.{sound_part}
use Rattle.asm_eval.specs.code.Frames.{readings_of}
use Rattle.asm_eval.specs.code.Opening.{all_of, work_of}
use Rattle.asm_eval.specs.code.Pieces.{IsPiece}
use Rattle.asm_eval.specs.code.Evaluation.{frame_locations, evaluation_shape}
use Rattle.asm_eval.proofs.open.open_parts.Goals as goal

pub loop-i-init : goal.loop-i-init
loop-i-init g c =
    let a = c.args in
    let shape = evaluation_shape a.evaluation.now in
    let none = c.in_ok-pieces.ensures.items in
    record {
      works = none_yet (work_of shape) _ (parts_from (readings_of shape a.frame.now) (frame_locations shape a.frame.now) a.path.now 0 a.parts.now) none;
      are_pieces = subst (All (IsPiece shape)) (sym none) (All-nil (IsPiece shape));
    }

pub loop-i-preserved : goal.loop-i-preserved
loop-i-preserved g c =
    let a = c.args in
    let shape = evaluation_shape a.evaluation.now in
    let rs = readings_of shape a.frame.now in
    let ls = frame_locations shape a.frame.now in
    let l = c.loop-i in
    let part = c.index-parts-i in
    let below = c.loop-i-test.true in
    let more = c.in_ok-push.ensures.items in
    let rest = parts_from rs ls a.path.now (l.i + 1) (drop (l.i + 1) a.parts.now) in
    record {
      works = one_more (work_of shape) l.pieces.items c.push.new.self.items _ rest more
          ∙ ap (λ q. map (work_of shape) l.pieces.items ++ all_of (rule_of part.result) rs ls q ∷ rest) c.in_ok-path.ensures
          ∙ ap (λ ws. map (work_of shape) l.pieces.items ++ ws) (parts_more rs ls a.path.now a.parts.now l.i part.result below part.is)
          ∙ l.invariant.works;
      are_pieces = all_more (IsPiece shape) _ _ _ more l.invariant.are_pieces
          (sound_part shape a.parts.now l.i part.result below part.is c.requires.sound, c.requires.framed, tt);
    }

pub returns : goal.returns
returns g c =
    let a = c.args in
    let shape = evaluation_shape a.evaluation.now in
    let l = c.loop-i in
    let none = no_parts (readings_of shape a.frame.now) (frame_locations shape a.frame.now) a.path.now a.parts.now l.i (omega (arith, c.loop-i-test.false)) in
    record {
      works = ap (given 0) (none_left (work_of shape) l.pieces.items _ _ none l.invariant.works);
      are_pieces = l.invariant.are_pieces;
    }
