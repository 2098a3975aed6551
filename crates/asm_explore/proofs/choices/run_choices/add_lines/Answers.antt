use Rattle.std.proofs.Common.{◌≡◌, ◌++◌, ◌∷◌, [], get_or, take, sym, ap, ◌∙◌}
use Rattle.std.proofs.lemmas.List.{append_assoc, map_push}
use Rattle.asm_reader.specs.ScriptLines.{Line}
use Rattle.asm_explore.specs.declared.choices.choice_point.ChoicePoint.{ChoicePoint}
use Rattle.asm_explore.specs.RunChoices.{choices_made}
use Rattle.asm_explore.specs.ChoiceLines.{lines_for}
use Rattle.asm_explore.specs.WrittenScripts.{line_said, lines_said}
use Rattle.asm_explore.proofs.ChoiceLemmas.RunSteps.{for_more}
use Rattle.asm_explore.proofs.choices.run_choices.add_lines.Goals as goal

pub loop-k-preserved : goal.loop-k-preserved
loop-k-preserved c =
    let old = lines_said c.args.lines.now.items in
    let choice = c.index-asked-k.result.choice in
    let so_far = lines_for c.args.step (choices_made (take c.loop-k.k c.args.asked.now)) in
    let line : Line = record { step = c.args.step; path = choice.path; choice = choice.number } in
    let pushed = ap lines_said c.in_ok-push.ensures.items ∙ map_push line_said c.loop-k.lines.items record { step = c.args.step; path = c.as_slice.result; number = (get_or c.args.asked.now c.loop-k.k c.index-asked-k.result).choice.number } in
    let same : lines_said c.push.new.self.items ≡ lines_said c.loop-k.lines.items ++ line ∷ [] =
    pushed ∙ (λ i. lines_said c.loop-k.lines.items ++ record { step = c.args.step; path = (c.as_slice.ensures ∙ ap (λ (it : ChoicePoint). it.choice.path) (sym c.index-asked-k.is)) i; choice = (sym c.index-asked-k.is i).choice.number } ∷ []) in
    same ∙ (ap (λ it. it ++ line ∷ []) c.loop-k.invariant ∙ (append_assoc old so_far (line ∷ [])
    ∙ ap (λ it. old ++ it) (for_more c.args.step c.args.asked.now c.loop-k.k c.index-asked-k.result c.loop-k-test.true c.index-asked-k.is)))
