use Rattle.std.proofs.Common.{ap, ◌∙◌, ◌∷◌, []}
use Rattle.asm_code.specs.code.RuleViews.{rule_of}
use Rattle.asm_eval.proofs.Lists.{all_alone}
use Rattle.asm_eval.proofs.OpenedRules.{given, one_alone}
use Rattle.asm_eval.specs.code.Frames.{readings_of}
use Rattle.asm_eval.specs.code.Opening.{all_of, work_of}
use Rattle.asm_eval.specs.code.Pieces.{IsPiece}
use Rattle.asm_eval.specs.code.Evaluation.{frame_locations, evaluation_shape}
use Rattle.asm_eval.proofs.open.open_one.Goals as goal

pub returns : goal.returns
returns g c =
    let a = c.args in
    let shape = evaluation_shape a.evaluation.now in
    let none = c.new-pieces.ensures.items in
    let more = c.in_ok-push.ensures.items in
    record {
      works = ap (given 0) (one_alone (work_of shape) _ _ _ none more ∙ ap (λ q. all_of (rule_of a.rule.now) (readings_of shape a.frame) (frame_locations shape a.frame) q ∷ []) c.in_ok-path.ensures);
      are_pieces = all_alone (IsPiece shape) _ _ _ none more (c.requires.sound, c.requires.framed, tt);
    }
