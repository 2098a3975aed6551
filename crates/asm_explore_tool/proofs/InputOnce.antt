-- Free. Standard input is read once.
--     never_twice          words that are taken never ask for the input twice
use Rattle.std.proofs.Common.{◌≡◌, codes, Bool, true, false, List, [], ◌∷◌, Some, refl, sym, ap, ◌∙◌}
use Rattle.std.specs.Prelude.{◌&&◌, ◌||◌, option_map}
use Rattle.clap.specs.Walk.{Row, Text, first_of}
use Rattle.asm_explore_words.specs.WordsSaid.{AreRunSaid, AreSaidBehind, AreShowSaid, are_both_chosen, are_both_input, are_two_forms, is_input, is_run_at_odds, reads_input_twice, reads_task_twice, run_rows, show_rows}
use Rattle.asm_explore_words.specs.declared.settings.RunQuestion.{RunQuestion}
use Rattle.asm_explore_words.specs.declared.settings.RunSettings.{RunSettings}
use Rattle.asm_explore_words.specs.declared.settings.ShowSettings.{ShowSettings}
use Rattle.asm_explore_words.specs.declared.settings.Task.{Task}
use Rattle.asm_explore_words.specs.declared.settings.Task.TheVariants as task

twice_alike : (rows : List Row) (settings : RunSettings) → first_of (codes "spec") rows ≡ Some settings.spec.now
    → option_map (λ text. text.now) settings.script ≡ first_of (codes "script") rows
    → reads_input_twice settings ≡ (is_input (first_of (codes "spec") rows) && is_input (first_of (codes "script") rows))
twice_alike rows settings spec script =
    ap (λ name. is_input name && is_input (option_map (λ text. text.now) settings.script)) (sym spec)
    ∙ ap (λ name. is_input (first_of (codes "spec") rows) && is_input name) script

first_false : (first second : Bool) → (first || second) ≡ false → first ≡ false
first_false true second neither = cc
first_false false second neither = refl

-- words that are not at odds don't ask for the input twice
not_twice : (draws : Bool) (rows : List Row) → is_run_at_odds draws rows ≡ false → are_both_input rows ≡ false
not_twice draws rows none = first_false (are_both_input rows) (are_both_chosen draws rows) none

once_said : (draws : Bool) (words : List Text) (question : RunQuestion) → AreRunSaid draws words question → reads_input_twice question.run ≡ false
once_said draws words question said =
    twice_alike (run_rows draws words) question.run said.1.run.spec said.1.run.script ∙ not_twice draws (run_rows draws words) said.0.1

once_shown : (words : List Text) (settings : ShowSettings) → AreShowSaid words settings → reads_input_twice settings.run ≡ false
once_shown words settings said =
    let rows = show_rows words in
    twice_alike rows settings.run said.1.spec said.1.script ∙ not_twice true rows (first_false (is_run_at_odds true rows) (are_two_forms rows) said.0.1)

pub never_twice : (words : List Text) (asked : Task) → AreSaidBehind words asked → reads_task_twice asked ≡ false
never_twice [] asked said = absurd said
never_twice (command ∷ words) (task.All settings) said = refl
never_twice (command ∷ words) (task.Random settings) said = refl
never_twice (command ∷ words) (task.Choices question) said = once_said true words question said.1
never_twice (command ∷ words) (task.Clash question) said = once_said false words question said.1
never_twice (command ∷ words) (task.Show settings) said = once_shown words settings said.1
