use Rattle.std.proofs.Common.{◌≡◌, ◌∙◌, ◌∷◌, ◌++◌, [], ap, append_assoc}
use Rattle.std.specs.String.{string_bytes}
use Rattle.asm_explore_texts.specs.Conditions.{text_of, texts_of}
use Rattle.asm_explore_texts.specs.Comments.{lines_of}
use Rattle.asm_explore_report.specs.Facts.{always_lines}
use Rattle.asm_explore_random.specs.RandomFacts.{looked_for_words, quiet_lines, random_counts, run_lines}
use Rattle.asm_explore_random.proofs.random_facts.random_facts.Goals as goal

pub returns : goal.returns
returns c =
    let settings = c.args.settings.now in
    let answer = c.args.answer.now in
    let conditions = c.args.conditions.now in
    let always = always_lines (texts_of conditions.always.items) in
    let quiet = quiet_lines (text_of conditions.when_quiet) in
    let looked = looked_for_words conditions in
    let counts = random_counts settings.seed answer in
    let run = run_lines settings.turns settings.spec.now answer.shortest answer.finding in
    let first : lines_of c.add_always.new.lines.items ≡ always =
    c.in_ok-add_always.ensures ∙ ((λ j. lines_of (c.new-lines.ensures.items j) ++ always_lines (texts_of c.as_slice.result.now)) ∙ ap (λ cs. always_lines (texts_of cs)) c.as_slice.ensures.value) in
    let second : lines_of c.add_quiet.new.lines.items ≡ always ++ quiet = c.in_ok-add_quiet.ensures ∙ ap (λ t. t ++ quiet) first in
    let third : lines_of c.add_text.new.lines.items ≡ (always ++ quiet) ++ looked ∷ [] =
    c.in_ok-add_text.ensures ∙ (ap (λ t. t ++ string_bytes c.in_ok-looked_for_line.field-0 ∷ []) second ∙ ap (λ line. (always ++ quiet) ++ line ∷ []) c.in_ok-looked_for_line.ensures) in
    let fourth : lines_of c.add_counts.new.lines.items ≡ ((always ++ quiet) ++ looked ∷ []) ++ counts = c.in_ok-add_counts.ensures ∙ ap (λ t. t ++ counts) third in
    c.in_ok-add_run.ensures ∙ (ap (λ t. t ++ run) fourth ∙ (append_assoc ((always ++ quiet) ++ looked ∷ []) counts run
    ∙ (append_assoc (always ++ quiet) (looked ∷ []) (counts ++ run) ∙ append_assoc always quiet (looked ∷ (counts ++ run)))))
