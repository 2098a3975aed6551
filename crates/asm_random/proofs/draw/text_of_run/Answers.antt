use Rattle.std.proofs.Common.{◌≡◌, ◌∙◌, ℕ, [], List, ap, subst, sym}
use Rattle.std.specs.String.{string_bytes}
use Rattle.asm_state.specs.Location.{State}
use Rattle.asm_reader.specs.ExactLines.{exactly}
use Rattle.asm_reader.specs.ScriptLines.{Line, Script}
use Rattle.asm_reader.specs.ScriptText.{IsScript}
use Rattle.asm_meaning.specs.Program.{nothing_bound}
use Rattle.asm_meaning.specs.Scripts.{IsUnrepeated}
use Rattle.asm_explore.specs.ChosenLines.{AreTooLong}
use Rattle.asm_explore.specs.RunChoices.{choices_in, chosen_from, lines_forward, of_run}
use Rattle.asm_explore.specs.WrittenScripts.{AreSteps, IsTextOf, IsTextRefusal, lines_said, lines_text, numbers_in, written}
use Rattle.asm_explore.specs.declared.outcomes.listed_outcome.Choice.{Choice}
use Rattle.asm_explore.specs.declared.scripts.script_line.Zeros.TheVariants.{LeftOut}
use Rattle.asm_random.specs.code.Drafts.{draft_lines}
use Rattle.asm_random.specs.code.ResolvedRuns.{right_in, specification_in}
use Rattle.asm_random.proofs.DrawnTextLines.{is_drawn_text, too_long}
use Rattle.asm_random.proofs.draw.text_of_run.Goals as goal

pub returns-in-Ok-clause-some : goal.returns-in-Ok-clause-some
returns-in-Ok-clause-some c =
    let m = c.args.specified.now in
    let spec = specification_in m in
    let script = exactly (draft_lines c.args.run.now.draft) in
    let limit = c.args.run.now.steps in
    let steps = choices_in c.in_ok-made.made in
    let made : steps ≡ of_run spec m.turns (chosen_from spec m.turns) script limit = c.in_ok-made.ensures.choices in
    let said = lines_said c.as_slice.result.now in
    let same : said ≡ lines_forward (of_run spec m.turns (chosen_from spec m.turns) script limit) =
    ap lines_said c.as_slice.ensures.value ∙ (c.in_ok-lines.ensures.lines ∙ ap lines_forward made) in
    let counted = subst AreSteps (sym (ap lines_said c.as_slice.ensures.value)) c.in_ok-lines.ensures.steps in
    let apart = subst (λ (cs : List (List Choice)). IsUnrepeated (exactly (lines_forward cs))) made c.in_ok-made.ensures.again.unrepeated in
    let apart_said = subst (λ (ls : List Line). IsUnrepeated (exactly ls)) (sym same) apart in
    let bytes = string_bytes c.in-Ok.text in
    is_drawn_text spec m.turns (λ (s : Script) (step : ℕ) (A : State). c.making_laws.ensures spec.program m.turns s step A nothing_bound [] spec.main) c.zeros_law.ensures script limit
    c.told_outcomes.ensures (right_in m) c.args.seed c.args.steps bytes apart c.requires
    (subst (λ (ls : List Line). IsTextOf (written LeftOut ls) bytes) same c.in-Ok.ensures.text)
    (subst (λ (ls : List Line). IsScript bytes (exactly (written LeftOut ls))) same (c.in-Ok.ensures.script counted apart_said))

pub returns-clause-none : goal.returns-clause-none
returns-clause-none c =
    let m = c.args.specified.now in
    let spec = specification_in m in
    let script = exactly (draft_lines c.args.run.now.draft) in
    let limit = c.args.run.now.steps in
    let made : choices_in c.in_ok-made.made ≡ of_run spec m.turns (chosen_from spec m.turns) script limit = c.in_ok-made.ensures.choices in
    let said = lines_said c.as_slice.result.now in
    let same : said ≡ lines_forward (of_run spec m.turns (chosen_from spec m.turns) script limit) =
    ap lines_said c.as_slice.ensures.value ∙ (c.in_ok-lines.ensures.lines ∙ ap lines_forward made) in
    let lines = written LeftOut said in
    let refused = subst (IsTextRefusal (numbers_in lines) (lines_text lines)) c.in-Err-Named.field-0-is c.in-Err-Named.ensures.refused in
    record {
      script = script;
      made = limit;
      drawn = c.requires;
      long = subst (λ (ls : List Line). AreTooLong (written LeftOut ls)) same (too_long lines c.in-Err-Named.field-0-0 refused);
    }
