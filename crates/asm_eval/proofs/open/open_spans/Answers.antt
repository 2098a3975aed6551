use Rattle.std.proofs.Common.{◌+◌, ◌-◌, ◌≤◌, ◌≡◌, ◌∙◌, ◌∷◌, ◌++◌, map, ap, sym, subst, All, arith}
use Rattle.std.specs.Prelude.{min}
use Rattle.std.proofs.lemmas.List.Elements.{All-nil}
use Rattle.asm_eval.specs.declared.part.Part.TheVariants as part
use Rattle.asm_code.specs.code.RuleViews.{rule_of}
use Rattle.asm_eval.proofs.Lists.{all_more}
use Rattle.asm_eval.proofs.OpenedRules.{given, no_spans, none_left, none_yet, one_more, part_of_part, span_next, spans_from, spans_opened}
use Rattle.asm_eval.specs.code.Frames.{readings_of}
use Rattle.asm_eval.specs.code.Opening.{part_of, work_of}
use Rattle.asm_eval.specs.code.Pieces.{IsPiece}
use Rattle.asm_eval.specs.code.Evaluation.{evaluation_choices, frame_locations, evaluation_shape, evaluation_state}
use Rattle.asm_eval.proofs.open.open_spans.Goals as goal

pub loop-next-init : goal.loop-next-init
loop-next-init g c =
    let a = c.args in
    let shape = evaluation_shape a.evaluation.now in
    let f = a.piece.now.frame in
    let none = c.in_ok-pieces.ensures.items in
    let all = spans_from a.cut (rule_of a.piece.now.rule.now) (readings_of shape f) (frame_locations shape f) a.piece.now.path a.to a.from in
    record {
      low = omega arith;
      high = c.requires.rises;
      works = none_yet (work_of shape) _ all none;
      are_pieces = subst (All (IsPiece shape)) (sym none) (All-nil (IsPiece shape));
    }

pub loop-next-preserved : goal.loop-next-preserved
loop-next-preserved g c =
    let a = c.args in
    let shape = evaluation_shape a.evaluation.now in
    let l = c.loop-next in
    let f = a.piece.now.frame in
    let p = a.piece.now.path in
    let R = rule_of a.piece.now.rule.now in
    let rs = readings_of shape f in
    let ls = frame_locations shape f in
    let more = c.in_ok-push.ensures.items in
    let least = c.min.ensures in
    let before = c.loop-next-test.true in
    let low = l.invariant.low in
    let high = l.invariant.high in
    let end = l.next + c.min.result in
    let on : l.next ≤ end = omega arith in
    let off : end ≤ a.to = omega (arith, least, before) in
    let is : end ≡ min (l.next + a.cut) a.to = omega (arith, least, before) in
    let path = c.in_ok-path.ensures ∙ c.as_slice.ensures in
    let so_far = map (work_of shape) l.pieces.items in
    let rest = spans_from a.cut R rs ls p a.to end in
    record {
      low = omega (arith, low);
      high = off;
      works = one_more (work_of shape) l.pieces.items c.push.new.self.items _ rest more
          ∙ ap (λ q. so_far ++ part_of R rs ls q (part.Span l.next end) ∷ rest) path
          ∙ ap (λ its. so_far ++ map (part_of R rs ls p) its) (span_next a.cut c.requires.cut l.next end a.to before is)
          ∙ l.invariant.works;
      are_pieces = all_more (IsPiece shape) _ _ _ more l.invariant.are_pieces (c.requires.sound, c.requires.framed, part_of_part shape R a.from l.next end a.to low on off c.requires.part);
    }

pub returns : goal.returns
returns g c =
    let a = c.args in
    let r = a.evaluation.now in
    let shape = evaluation_shape r in
    let l = c.loop-next in
    let f = a.piece.now.frame in
    let rs = readings_of shape f in
    let ls = frame_locations shape f in
    let R = rule_of a.piece.now.rule.now in
    let none = ap (map (part_of R rs ls a.piece.now.path)) (no_spans a.cut (a.to - l.next) l.next a.to (omega (arith, c.loop-next-test.false))) in
    record {
      works = ap (given 0) (none_left (work_of shape) l.pieces.items _ _ none l.invariant.works)
          ∙ spans_opened a.cut shape (evaluation_state r) rs ls a.piece.now.path a.from a.to (evaluation_choices r) R c.requires.part c.requires.long;
      are_pieces = l.invariant.are_pieces;
    }
