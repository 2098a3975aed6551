-- Definition. The lines behind the first of a report of all runs, and the files beside it.
--     condition_lines conditions      the conditions
--     all_looked_for conditions       which faults are looked for
--     count_lines file answer         states, steps, depth, the widest step, and quiet states, with
--                                     this file of a script to the first of them
--     quiet_files file run            the file that has the text of this script to a quiet state, if
--                                     one is asked for by its name, and there is a script
--     IsCrowd text finding lines      of a step with too many outcomes, at which path there are how
--                                     many beside how many others, and maybe line and column of a name
--                                     of the text: of which one is left free
--     ExplainsScript file run old new fault    why a script isn't written to this file: it can't be
--     AreFacts                        all of them, in order
use Rattle.std.specs.Prelude.{◌≡◌, ◌⊎◌, ℕ, List, [], ◌∷◌, ◌++◌, length, Option, Some, None, option_map, codes, decimal}
use Rattle.std.specs.String.{string_bytes}
use Rattle.asm_explore.specs.declared.exploration_result.ExplorationResult.{ExplorationResult}
use Rattle.asm_explore.specs.declared.exploration_result.Finding.{Finding}
use Rattle.asm_explore.specs.declared.exploration_result.Finding.TheVariants as finding
use Rattle.asm_explore.specs.declared.exploration_result.QuietRun.{QuietRun}
use Rattle.asm_explore.specs.declared.outcomes.outcomes_error.RuleOverLimit.{RuleOverLimit}
use Rattle.asm_run.specs.Trace.{path_text}
use Rattle.asm_explore_texts.specs.Conditions.{text_of, texts_of}
use Rattle.asm_explore_texts.specs.Positions.{MayBePosition}
use Rattle.asm_explore_texts.specs.declared.conditions.Conditions.{Conditions}
use Rattle.asm_explore_words.specs.declared.fault.Fault.{Fault}
use Rattle.asm_explore_words.specs.declared.fault.Fault.TheVariants as fault
use Rattle.asm_explore_words.specs.declared.settings.Settings.{Settings}
use Rattle.asm_explore_report.specs.Commands.{command, file_word}
use Rattle.asm_explore_report.specs.Facts.{always_lines, condition_line, deadlock_words, looked_for}
use Rattle.asm_explore_report.specs.ShownRuns.{Shown, first_state, shown_bad}
use Rattle.asm_explore_all.specs.MadeFiles.{MadeFile, StopsAt}

-- ---- conditions

abbrev pub optional_line : (name : List ℕ) → Option (List ℕ) → List (List ℕ)
optional_line name None = []
optional_line name (Some text) = condition_line name text ∷ []

abbrev pub condition_lines : Conditions → List (List ℕ)
condition_lines conditions =
    always_lines (texts_of conditions.always.items)
    ++ (optional_line (codes "deadlock unless") (text_of conditions.when_quiet) ++ optional_line (codes "within") (text_of conditions.within))

abbrev pub all_looked_for : Conditions → List ℕ
all_looked_for conditions = looked_for (length conditions.always.items) ++ deadlock_words (text_of conditions.when_quiet)

-- ---- numbers

abbrev pub count_line : (name : List ℕ) → ℕ → List ℕ
count_line name count = name ++ (codes " " ++ decimal count)

-- in which file there is a script to the first quiet state, if there is one
abbrev pub script_words : (file : Option (List ℕ)) → Option QuietRun → List ℕ
script_words None run = []
script_words (Some name) None = []
script_words (Some name) (Some run) = codes ", a script to the first: --quiet " ++ file_word name

abbrev pub quiet_line : (file : Option (List ℕ)) → ExplorationResult → List ℕ
quiet_line file answer = count_line (codes "quiet") answer.quiet ++ script_words file answer.first_quiet

abbrev pub count_lines : (file : Option (List ℕ)) → ExplorationResult → List (List ℕ)
count_lines file answer =
    count_line (codes "states") answer.states ∷ count_line (codes "steps") answer.outcomes ∷ count_line (codes "depth") answer.depth
    ∷ count_line (codes "widest") answer.widest ∷ quiet_line file answer ∷ []

abbrev pub quiet_files : (file : Option (List ℕ)) → Option QuietRun → List MadeFile
quiet_files None run = []
quiet_files (Some name) None = []
quiet_files (Some name) (Some run) = (name, string_bytes run.script) ∷ []

pub record IsCrowdLine (text : List ℕ) (crowd : RuleOverLimit) (line : List ℕ) : Type 0 where
  pub position : List ℕ
  pub is_position : MayBePosition text position
  pub is :
      line ≡ codes "too many outcomes at " ++ (position ++ (codes "place " ++ (path_text crowd.path
      ++ (codes ": " ++ (decimal crowd.first ++ (codes " beside " ++ decimal crowd.others))))))

abbrev pub IsCrowd : (text : List ℕ) → Finding → (lines : List (List ℕ)) → Type 0
IsCrowd text (finding.TooManyOutcomes safe_to crowd) lines = (line : List ℕ) × IsCrowdLine text crowd line × (lines ≡ line ∷ [])
IsCrowd text finding.Closed lines = lines ≡ []
IsCrowd text (finding.SafeTo depth) lines = lines ≡ []
IsCrowd text (finding.BadStep bad) lines = lines ≡ []
IsCrowd text finding.WrongFirst lines = lines ≡ []
IsCrowd text (finding.TooManyStates safe_to) lines = lines ≡ []
IsCrowd text (finding.NoMemory safe_to) lines = lines ≡ []
IsCrowd text (finding.Unwritten unwritten) lines = lines ≡ []

-- ---- the run that is shown, and how it is made

abbrev pub shown_in : Finding → Option Shown
shown_in (finding.BadStep bad) = Some (shown_bad bad)
shown_in finding.WrongFirst = Some first_state
shown_in finding.Closed = None
shown_in (finding.SafeTo depth) = None
shown_in (finding.TooManyStates safe_to) = None
shown_in (finding.TooManyOutcomes safe_to crowd) = None
shown_in (finding.NoMemory safe_to) = None
shown_in (finding.Unwritten unwritten) = None

abbrev pub command_lines : (turns : ℕ) → (name : List ℕ) → Option Shown → List (List ℕ)
command_lines turns name None = []
command_lines turns name (Some run) = command run.1 turns name ∷ []

-- ---- the script to the first quiet state

abbrev pub ExplainsScript : (file : Option (List ℕ)) → Option QuietRun → (old new : Option (List MadeFile)) → Fault → Type 0
ExplainsScript file run old new (fault.QuietScript name) = (file ≡ Some name.now) × StopsAt old new name.now (quiet_files file run)
ExplainsScript file run old new fault.Memory = ⊥
ExplainsScript file run old new (fault.Graph name) = ⊥
ExplainsScript file run old new (fault.Name name) = ⊥
ExplainsScript file run old new (fault.Text refused) = ⊥
ExplainsScript file run old new fault.Unconfirmed = ⊥

-- ---- all of them

-- with these lines of the graph
pub record AreFacts (text : List ℕ) (conditions : Conditions) (settings : Settings) (answer : ExplorationResult) (graph lines : List (List ℕ)) : Type 0 where
  pub crowd : List (List ℕ)
  pub is_crowd : IsCrowd text answer.finding crowd
  pub are :
      let counts = count_lines (option_map (λ name. name.now) settings.quiet) answer in
      let made = command_lines settings.turns settings.spec.now (shown_in answer.finding) in
      lines ≡ crowd ++ (condition_lines conditions ++ (all_looked_for conditions ∷ (counts ++ (graph ++ made))))
