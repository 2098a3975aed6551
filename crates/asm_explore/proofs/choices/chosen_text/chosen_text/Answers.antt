use Rattle.std.proofs.Common.{◌≡◌, ◌∙◌, sym, ap, subst}
use Rattle.std.specs.String.{string_bytes}
use Rattle.asm_syntax.specs.code.Views.{spec_of}
use Rattle.asm_reader.specs.ExactLines.{exactly}
use Rattle.asm_reader.specs.ScriptText.{IsScript}
use Rattle.asm_meaning.specs.Declarations.{specification_of}
use Rattle.asm_meaning.specs.Scripts.{IsUnrepeated}
use Rattle.asm_explore.specs.ChosenLines.{AreTooLong}
use Rattle.asm_explore.specs.RunChoices.{choices_in, lines_forward}
use Rattle.asm_explore.specs.ChoiceLines.{needed}
use Rattle.asm_explore.specs.WrittenScripts.{AreSteps, IsTextOf, IsTextRefusal, lines_said, lines_text, numbers_in}
use Rattle.asm_explore.proofs.ChoiceLemmas.ChosenTexts.{needed_lines, needed_text, too_long}
use Rattle.asm_explore.proofs.ChoiceLemmas.SameRun.{makes_the_run}
use Rattle.asm_explore.proofs.choices.chosen_text.chosen_text.Goals as goal

pub returns-in-Ok-clause-some : goal.returns-in-Ok-clause-some
returns-in-Ok-clause-some g c =
    let m = c.args.specified.now in
    let specification = specification_of (spec_of m.checked.now.spec) in
    let script = g.P.Picks.script c.args.script.now in
    let limit = c.args.steps in
    let steps = choices_in c.in_ok-made.made in
    let said = lines_said c.as_slice.result.now in
    let same : said ≡ lines_forward steps = ap lines_said c.as_slice.ensures.value ∙ c.in_ok-lines.ensures.lines in
    let makes = makes_the_run specification m.turns script limit steps c.in_ok-made.ensures in
    let counted = subst AreSteps (sym (ap lines_said c.as_slice.ensures.value)) c.in_ok-lines.ensures.steps in
    let apart = subst (λ ls. IsUnrepeated (exactly ls)) (sym same) makes.unrepeated in
    let bytes = string_bytes c.in-Ok.text in
    needed_text specification m.turns script limit steps c.in_ok-made.ensures bytes
    (subst (λ ls. IsTextOf (needed ls) bytes) same c.in-Ok.ensures.text) (subst (λ ls. IsScript bytes (exactly (needed ls))) same (c.in-Ok.ensures.script counted apart))

pub returns-clause-none : goal.returns-clause-none
returns-clause-none g c =
    let m = c.args.specified.now in
    let said = lines_said c.as_slice.result.now in
    let same : said ≡ lines_forward (choices_in c.in_ok-made.made) = ap lines_said c.as_slice.ensures.value ∙ c.in_ok-lines.ensures.lines in
    let lines = needed_lines (specification_of (spec_of m.checked.now.spec)) m.turns (g.P.Picks.script c.args.script.now) c.args.steps (choices_in c.in_ok-made.made) c.in_ok-made.ensures in
    let refused = subst (IsTextRefusal (numbers_in (needed said)) (lines_text (needed said))) c.in-Err-Named.field-0-is c.in-Err-Named.ensures.refused in
    subst AreTooLong (ap needed same ∙ lines) (too_long (needed said) c.in-Err-Named.field-0-0 refused)
