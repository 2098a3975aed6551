-- Definition. The lines behind the first of a report of random runs.
--     quiet_lines text         the condition for quiet states, if there is one
--     looked_for_words conditions    which faults are looked for
--     shown_in finding         the run that is shown
--     random_counts            what is drawn from, and how many runs and steps were made
--     run_lines                which run is shown, whether a shorter one may show the same, and how
--                              it is made; the run of a first state is the first one
--     random_facts             all of them, in order
use Rattle.std.specs.Prelude.{ℕ, Bool, cond, List, [], ◌∷◌, ◌++◌, length, Option, Some, None, codes, decimal}
use Rattle.asm_random.specs.declared.random_result.RandomResult.{RandomResult}
use Rattle.asm_random.specs.declared.random_result.RandomFinding.{RandomFinding}
use Rattle.asm_random.specs.declared.random_result.RandomFinding.TheVariants as random
use Rattle.asm_explore_texts.specs.Conditions.{text_of, texts_of}
use Rattle.asm_explore_texts.specs.declared.conditions.Conditions.{Conditions}
use Rattle.asm_explore_words.specs.declared.settings.RandomSettings.{RandomSettings}
use Rattle.asm_explore_report.specs.Commands.{command}
use Rattle.asm_explore_report.specs.Facts.{always_lines, condition_line, deadlock_words, looked_for}
use Rattle.asm_explore_report.specs.ShownRuns.{Shown, first_state, shown_bad}

abbrev pub quiet_lines : Option (List ℕ) → List (List ℕ)
quiet_lines None = []
quiet_lines (Some text) = condition_line (codes "deadlock unless") text ∷ []

abbrev pub looked_for_words : Conditions → List ℕ
looked_for_words conditions = looked_for (length conditions.always.items) ++ deadlock_words (text_of conditions.when_quiet)

abbrev pub shown_in : RandomFinding → Option Shown
shown_in random.Nothing = None
shown_in (random.Bad number bad) = Some (shown_bad bad)
shown_in random.WrongFirst = Some first_state
shown_in (random.Unwritten unwritten) = None

abbrev pub random_counts : (seed : ℕ) → RandomResult → List (List ℕ)
random_counts seed answer =
    (codes "seed " ++ decimal seed) ∷ (codes "runs " ++ decimal answer.runs) ∷ (codes "steps " ++ decimal answer.steps) ∷ []

abbrev pub run_line : ℕ → List ℕ
run_line number = codes "run " ++ decimal number

abbrev pub longer_lines : (shortest : Bool) → List (List ℕ)
longer_lines shortest = cond shortest [] (codes "it may be longer than it need be" ∷ [])

module _ (turns : ℕ) (name : List ℕ) (shortest : Bool) where
  abbrev pub run_lines : RandomFinding → List (List ℕ)
  run_lines random.Nothing = []
  run_lines (random.Bad number bad) = run_line number ∷ (longer_lines shortest ++ command (shown_bad bad).1 turns name ∷ [])
  run_lines random.WrongFirst = run_line 0 ∷ command 0 turns name ∷ []
  run_lines (random.Unwritten unwritten) = []

abbrev pub random_facts : Conditions → RandomSettings → RandomResult → List (List ℕ)
random_facts conditions settings answer =
    always_lines (texts_of conditions.always.items)
    ++ (quiet_lines (text_of conditions.when_quiet)
    ++ (looked_for_words conditions ∷ (random_counts settings.seed answer ++ run_lines settings.turns settings.spec.now answer.shortest answer.finding)))
