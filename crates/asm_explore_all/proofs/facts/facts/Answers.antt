use Rattle.std.proofs.Common.{◌≡◌, ◌∙◌, ◌∷◌, ◌++◌, [], ap, append_assoc}
use Rattle.std.specs.Prelude.{option_map}
use Rattle.std.specs.String.{string_bytes}
use Rattle.asm_explore_texts.specs.Comments.{lines_of}
use Rattle.asm_explore_report.specs.ShownRuns.{shown_of}
use Rattle.asm_explore_all.specs.AllFacts.{all_looked_for, command_lines, condition_lines, count_lines, shown_in}
use Rattle.asm_explore_all.specs.code.GraphFiles.{graph_lines}
use Rattle.asm_explore_all.proofs.facts.facts.Goals as goal

pub returns : goal.returns
returns c =
    let settings = c.args.settings.now in
    let answer = c.args.answered.now in
    let crowd = lines_of c.in_ok-lines.lines.items in
    let conditions = condition_lines c.args.conditions.now in
    let looked = all_looked_for c.args.conditions.now in
    let counts = count_lines (option_map (λ name. name.now) settings.quiet) answer in
    let note = graph_lines c.args.drawing in
    let made = command_lines settings.turns settings.spec.now (shown_in answer.finding) in
    let first : lines_of c.add_conditions.new.lines.items ≡ crowd ++ conditions = c.in_ok-add_conditions.ensures in
    let second : lines_of c.add_text.new.lines.items ≡ (crowd ++ conditions) ++ looked ∷ [] =
    c.in_ok-add_text.ensures ∙ (ap (λ t. t ++ string_bytes c.in_ok-all_looked_for_line.field-0 ∷ []) first
    ∙ ap (λ line. (crowd ++ conditions) ++ line ∷ []) c.in_ok-all_looked_for_line.ensures) in
    let third : lines_of c.add_counts.new.lines.items ≡ ((crowd ++ conditions) ++ looked ∷ []) ++ counts = c.in_ok-add_counts.ensures ∙ ap (λ t. t ++ counts) second in
    let fourth : lines_of c.add_graph_note.new.lines.items ≡ (((crowd ++ conditions) ++ looked ∷ []) ++ counts) ++ note = c.in_ok-add_graph_note.ensures ∙ ap (λ t. t ++ note) third in
    let fifth = c.in_ok-add_command.ensures ∙ (ap (λ t. t ++ command_lines settings.turns settings.spec.now (shown_of c.shown_run.result)) fourth
    ∙ ap (λ run. ((((crowd ++ conditions) ++ looked ∷ []) ++ counts) ++ note) ++ command_lines settings.turns settings.spec.now run) c.shown_run.ensures) in
    record {
      crowd = crowd;
      is_crowd = c.in_ok-lines.ensures;
      are = fifth ∙ (append_assoc (((crowd ++ conditions) ++ looked ∷ []) ++ counts) note made
          ∙ (append_assoc ((crowd ++ conditions) ++ looked ∷ []) counts (note ++ made)
          ∙ (append_assoc (crowd ++ conditions) (looked ∷ []) (counts ++ (note ++ made))
          ∙ append_assoc crowd conditions (looked ∷ (counts ++ (note ++ made))))));
    }
