use Rattle.std.proofs.Common.{◌∙◌, [], ap, map}
use Rattle.std.proofs.lemmas.Result.{IfOk-weaker}
use Rattle.asm_syntax.specs.code.Views.{spec_of}
use Rattle.asm_explore_texts.specs.Comments.{lines_of}
use Rattle.asm_explore_table.specs.ChosenTexts.{pieces, wrapped}
use Rattle.asm_explore_table.specs.code.ChoiceTexts.{text_said}
use Rattle.asm_explore_table.proofs.ChosenPieces.{mapped}
use Rattle.asm_explore_table.proofs.chosen_lines.chosen_lines.Goals as goal

pub returns : goal.returns
returns c =
    let s = spec_of c.args.checked.now.spec in
    let texts = ap (map text_said) c.as_slice.ensures.value ∙ c.in_ok-texts.ensures ∙ mapped s c.args.asked.now in
    let same = ap lines_of c.as_slice-2.ensures.value ∙ c.in_ok-pieces.ensures ∙ ap (pieces []) texts in
    IfOk-weaker c.wrapped.result _ _ (λ lines is. is ∙ ap wrapped same) c.wrapped.ensures
