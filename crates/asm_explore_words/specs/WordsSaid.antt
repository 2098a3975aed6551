-- Definition. What words say.
--     AreSaid words settings        the settings are those that the words after `all` give: the graph
--                                   and the script aren't both written to one file, nor one of them
--                                   to that of the text or of a condition, and no names are given
--                                   for a graph that there is not
--     AreRandomSaid words settings  the same after `random`
--     AreRunSaid draws words settings
--                                   the same after `choices`, which may draw, and `clash`, which
--                                   doesn't: the text and the script aren't both standard input, and
--                                   choices aren't both read from a script and drawn
--     AreShowSaid words settings    the same after `show`: a page and lines of JSON aren't both asked
--                                   for, nor one of them and the width of a table's lines
--     AreSaidBehind words task      the first word names the command, and the others give its
--                                   settings
--     all_refusals words            the kinds of what is wrong with the words after `all`
--     one_run_refusals draws words  the same after `choices` and `clash`
--     all_show_refusals words       the same after `show`
--     task_refusals words           the kinds of what is wrong with the command and the words behind
--                                   it, none if they are taken
--     AskForHelp kinds              words of these kinds ask for help or for the version
--     IsRefusal kinds fault         words are refused by a fault of one of these kinds, or memory
--                                   ran out
use Rattle.std.specs.Prelude.{◌≡◌, ◌⊎◌, ℕ, Bool, true, false, not, ◌&&◌, ◌||◌, List, [], ◌∷◌, Option, Some, None, cond, option_and_then, option_map, codes, is_none, is_some, ⊤}
use Rattle.std.specs.Option.{option_map_or}
use Rattle.std.specs.Prelude.{find}
use Rattle.std.specs.List.{list_any}
use Rattle.std.specs.Str.{bytes_eq}
use Rattle.std.specs.Str.Parse.{digits_value, without_leading_plus}
use Rattle.clap.specs.Kinds as kinds
use Rattle.clap.specs.Kinds.{IsAmong, Kinds}
use Rattle.clap.specs.Matches.{first_value, found_of, matched_of, one_text}
use Rattle.clap.specs.Simple.{matches_of}
use Rattle.clap.specs.Values.{IsUnsignedIn, kind_of}
use Rattle.clap.specs.Walk.{Row, Text, first_of, is_empty, rows_of, texts}
use Rattle.clap.specs.declared.error.Error.{Error}
use Rattle.clap.specs.declared.error.kind.ErrorKind.TheVariants.{ArgumentConflict, DisplayHelp, DisplayVersion, OutOfMemory}
use Rattle.clap.specs.declared.parser.matches.ArgMatches.{ArgMatches}
use Rattle.clap.specs.declared.parser.matches.Found.{Found}
use Rattle.clap.specs.declared.parser.matches.ValueSource.{ValueSource}
use Rattle.clap.specs.declared.parser.matches.ValueSource.TheVariants.{CommandLine, DefaultValue}
use Rattle.asm_limits.specs.Limits.{NumberOption, are_within, turns_option, workers_option}
use Rattle.asm_arguments.specs.Numbers.{AreNumbers, HaveNumbers}
use Rattle.asm_explore_words.specs.CommandLine.{command, command_refusals, most_unsigned, outcomes_option, refusals, random_command, random_refusals, run_command, run_refusals, runs_option, show_command, show_refusals, states_option, steps_or_else, width_option}
use Rattle.asm_explore_words.specs.declared.settings.WordFault.{WordFault}
use Rattle.asm_explore_words.specs.declared.settings.WordFault.TheVariants.{Memory, Words}
use Rattle.asm_explore_words.specs.declared.settings.RandomSettings.{RandomSettings}
use Rattle.asm_explore_words.specs.declared.settings.RunQuestion.{RunQuestion}
use Rattle.asm_explore_words.specs.declared.settings.RunSettings.{RunSettings}
use Rattle.asm_explore_words.specs.declared.settings.Settings.{Settings}
use Rattle.asm_explore_words.specs.declared.settings.ShowForm.{ShowForm}
use Rattle.asm_explore_words.specs.declared.settings.ShowForm.TheVariants as form
use Rattle.asm_explore_words.specs.declared.settings.ShowSettings.{ShowSettings}
use Rattle.asm_explore_words.specs.declared.settings.Task.{Task}
use Rattle.asm_explore_words.specs.declared.settings.Task.TheVariants.{All, Random, Choices, Clash, Show}

-- ---- the options with numbers, with what the settings have of each

abbrev pub numbers_of : Settings → List (NumberOption × ℕ)
numbers_of s =
    (steps_or_else (codes "1000000"), s.steps) ∷ (turns_option, s.turns) ∷ (states_option, s.states) ∷ (outcomes_option, s.outcomes)
    ∷ (workers_option, s.workers) ∷ []

-- and a seed, which is any number of 64 bits
abbrev pub random_numbers_of : RandomSettings → List (NumberOption × ℕ)
random_numbers_of s = (steps_or_else (codes "1000"), s.steps) ∷ (turns_option, s.turns) ∷ (outcomes_option, s.outcomes) ∷ (runs_option, s.runs) ∷ []

abbrev pub run_numbers_of : RunSettings → List (NumberOption × ℕ)
run_numbers_of s = (steps_or_else (codes "1000"), s.steps) ∷ (turns_option, s.turns) ∷ []

abbrev pub show_numbers_of : ShowSettings → List (NumberOption × ℕ)
show_numbers_of s = (steps_or_else (codes "1000"), s.run.steps) ∷ (turns_option, s.run.turns) ∷ (width_option, s.width) ∷ []

abbrev pub number_options : List NumberOption
number_options = steps_or_else (codes "1000000") ∷ turns_option ∷ states_option ∷ outcomes_option ∷ workers_option ∷ []

abbrev pub random_number_options : List NumberOption
random_number_options = steps_or_else (codes "1000") ∷ turns_option ∷ outcomes_option ∷ runs_option ∷ []

abbrev pub run_number_options : List NumberOption
run_number_options = steps_or_else (codes "1000") ∷ turns_option ∷ []

abbrev pub show_number_options : List NumberOption
show_number_options = steps_or_else (codes "1000") ∷ turns_option ∷ width_option ∷ []

-- ---- each number is within its bounds

abbrev pub are_in_range : Settings → Bool
are_in_range s = are_within (numbers_of s)

abbrev pub are_random_in_range : RandomSettings → Bool
are_random_in_range s = are_within (random_numbers_of s)

abbrev pub are_run_in_range : RunSettings → Bool
are_run_in_range s = are_within (run_numbers_of s)

abbrev pub are_show_in_range : ShowSettings → Bool
are_show_in_range s = are_within (show_numbers_of s)

abbrev pub is_task_in_range : Task → Bool
is_task_in_range (All settings) = are_in_range settings
is_task_in_range (Random settings) = are_random_in_range settings
is_task_in_range (Choices question) = are_run_in_range question.run
is_task_in_range (Clash question) = are_run_in_range question.run
is_task_in_range (Show settings) = are_show_in_range settings

-- the entry of an argument has a text, of a number of 64 bits
pub record HasUnsigned (found : Found) (name : Text) : Type 0 where
  pub text : Text
  pub is_first : first_value found name ≡ Some text
  pub is_handed : one_text found name ≡ Some text
  pub is_within : IsUnsignedIn 0 most_unsigned text

-- the same, if there is an entry
abbrev pub MayHaveUnsigned : Found → (name : Text) → Type 0
MayHaveUnsigned found name = (matched_of found name ≡ None) ⊎ HasUnsigned found name

-- the rows of the words after `all`
abbrev pub all_rows : List Text → List Row
all_rows words = matches_of command words

-- what a parse of the words finds
pub record AreParsed (words : List Text) (matches : ArgMatches) : Type 0 where
  pub rows : rows_of (found_of matches) ≡ all_rows words
  pub spec : is_some (first_value (found_of matches) (codes "spec")) ≡ true
  pub numbers : HaveNumbers (found_of matches) number_options

pub record AreRandomParsed (words : List Text) (matches : ArgMatches) : Type 0 where
  pub rows : rows_of (found_of matches) ≡ matches_of random_command words
  pub spec : is_some (first_value (found_of matches) (codes "spec")) ≡ true
  pub numbers : HaveNumbers (found_of matches) random_number_options
  pub seed : HasUnsigned (found_of matches) (codes "seed")

-- the rows of the words after `choices`, which may draw, and `clash`
abbrev pub run_rows : (draws : Bool) → List Text → List Row
run_rows draws words = matches_of (run_command draws) words

pub record AreRunParsed (draws : Bool) (words : List Text) (matches : ArgMatches) : Type 0 where
  pub rows : rows_of (found_of matches) ≡ run_rows draws words
  pub spec : is_some (first_value (found_of matches) (codes "spec")) ≡ true
  pub numbers : HaveNumbers (found_of matches) run_number_options
  pub draw : draws ≡ true → MayHaveUnsigned (found_of matches) (codes "draw")

-- the rows of the words after `show`
abbrev pub show_rows : List Text → List Row
show_rows words = matches_of show_command words

pub record AreShowParsed (words : List Text) (matches : ArgMatches) : Type 0 where
  pub rows : rows_of (found_of matches) ≡ show_rows words
  pub spec : is_some (first_value (found_of matches) (codes "spec")) ≡ true
  pub numbers : HaveNumbers (found_of matches) show_number_options
  pub draw : MayHaveUnsigned (found_of matches) (codes "draw")

-- the texts of an argument
abbrev pub all_of : Text → List Row → List Text
all_of name rows = option_map_or (λ row. row.values) (find (λ row. bytes_eq row.id name) rows) []

-- the argument's text is this number, as `IsNumber` says it of one that may have a minus
pub record IsUnsigned (rows : List Row) (name : Text) (n : ℕ) : Type 0 where
  pub text : Text
  pub is_given : first_of name rows ≡ Some text
  pub is_read : digits_value 10 (without_leading_plus text) ≡ n

-- the same, if the argument has a text
abbrev pub MayBeUnsigned : List Row → (name : Text) → Option ℕ → Type 0
MayBeUnsigned rows name None = first_of name rows ≡ None
MayBeUnsigned rows name (Some n) = IsUnsigned rows name n

-- the text of a flag that is among the words
abbrev pub is_yes : Option Text → Bool
is_yes None = false
is_yes (Some text) = bytes_eq text (codes "true")

-- the argument is among the words; a default is not
abbrev pub is_of_words : Option ValueSource → Bool
is_of_words None = false
is_of_words (Some DefaultValue) = false
is_of_words (Some CommandLine) = true

abbrev pub is_said : Text → List Row → Bool
is_said name rows = is_of_words (option_and_then (λ row. row.source) (find (λ row. bytes_eq row.id name) rows))

-- ---- settings

pub record AreRead (rows : List Row) (settings : Settings) : Type 0 where
  pub spec : first_of (codes "spec") rows ≡ Some settings.spec.now
  pub numbers : AreNumbers rows (numbers_of settings)
  pub always : texts settings.always.items ≡ all_of (codes "always") rows
  pub always_files : texts settings.always_files.items ≡ all_of (codes "always-file") rows
  pub when_quiet : option_map (λ text. text.now) settings.when_quiet ≡ first_of (codes "deadlock-unless") rows
  pub within : option_map (λ text. text.now) settings.within ≡ first_of (codes "within") rows
  pub dot : option_map (λ text. text.now) settings.dot ≡ first_of (codes "dot") rows
  pub dot_only : texts settings.dot_only.items ≡ all_of (codes "dot-only") rows
  pub quiet : option_map (λ text. text.now) settings.quiet ≡ first_of (codes "quiet") rows
  pub trace : settings.trace ≡ is_yes (first_of (codes "trace") rows)
  pub table : settings.table ≡ is_yes (first_of (codes "table") rows)
  pub progress : settings.progress ≡ is_yes (first_of (codes "progress") rows)

-- the file with this name is standard input
abbrev pub is_input : Option Text → Bool
is_input None = false
is_input (Some name) = bytes_eq name (codes "-")

-- both name the same file
abbrev pub is_one_file : (name other : Option Text) → Bool
is_one_file None other = false
is_one_file (Some name) None = false
is_one_file (Some name) (Some other) = bytes_eq name other

-- the graph or the script would be written to the file that the text is read from
abbrev pub is_over_text : (spec dot quiet : Option Text) → Bool
is_over_text spec dot quiet = not (is_input spec) && (is_one_file spec dot || is_one_file spec quiet)

-- the graph or the script would be written to one of the files that conditions are read from; none
-- of these is standard input
abbrev pub is_over_conditions : (files : List Text) → (dot quiet : Option Text) → Bool
is_over_conditions files dot quiet = list_any (λ file. is_one_file (Some file) dot || is_one_file (Some file) quiet) files

-- the graph and the script would be in one file, or one of them in a file that is read
abbrev pub are_two_in_one : (spec : Option Text) → (files : List Text) → (dot quiet : Option Text) → Bool
are_two_in_one spec files dot quiet = is_one_file dot quiet || (is_over_text spec dot quiet || is_over_conditions files dot quiet)

-- names are given for a graph, and no file for it
abbrev pub lacks_graph : (names : List Text) → (dot : Option Text) → Bool
lacks_graph names dot = not (is_empty names) && is_none dot

-- the words name one file for two of them, or names for a graph that there is not
abbrev pub are_at_odds : List Text → Bool
are_at_odds words =
    let rows = all_rows words in
    let dot = first_of (codes "dot") rows in
    are_two_in_one (first_of (codes "spec") rows) (all_of (codes "always-file") rows) dot (first_of (codes "quiet") rows)
    || lacks_graph (all_of (codes "dot-only") rows) dot

abbrev pub AreTaken : List Text → Type 0
AreTaken words = (refusals words ≡ []) × (are_at_odds words ≡ false)

abbrev pub AreSaid : List Text → Settings → Type 0
AreSaid words settings = AreTaken words × AreRead (all_rows words) settings

pub record AreRandomRead (rows : List Row) (settings : RandomSettings) : Type 0 where
  pub spec : first_of (codes "spec") rows ≡ Some settings.spec.now
  pub numbers : AreNumbers rows (random_numbers_of settings)
  pub always : texts settings.always.items ≡ all_of (codes "always") rows
  pub always_files : texts settings.always_files.items ≡ all_of (codes "always-file") rows
  pub when_quiet : option_map (λ text. text.now) settings.when_quiet ≡ first_of (codes "deadlock-unless") rows
  pub seed : IsUnsigned rows (codes "seed") settings.seed
  pub trace : settings.trace ≡ is_yes (first_of (codes "trace") rows)
  pub table : settings.table ≡ is_yes (first_of (codes "table") rows)
  pub progress : settings.progress ≡ is_yes (first_of (codes "progress") rows)

abbrev pub AreRandomSaid : List Text → RandomSettings → Type 0
AreRandomSaid words settings = AreRandomRead (matches_of random_command words) settings

-- the seed by which choices are drawn, if they may be drawn
abbrev pub IsSeedOf : (draws : Bool) → List Row → (draw : Option ℕ) → Type 0
IsSeedOf false rows draw = draw ≡ None
IsSeedOf true rows draw = MayBeUnsigned rows (codes "draw") draw

pub record AreRunRead (draws : Bool) (rows : List Row) (settings : RunSettings) : Type 0 where
  pub spec : first_of (codes "spec") rows ≡ Some settings.spec.now
  pub numbers : AreNumbers rows (run_numbers_of settings)
  pub script : option_map (λ text. text.now) settings.script ≡ first_of (codes "script") rows
  pub draw : IsSeedOf draws rows settings.draw
  pub steps_said : settings.steps_said ≡ is_said (codes "steps") rows
  pub turns_said : settings.turns_said ≡ is_said (codes "turns") rows

pub record IsQuestionRead (draws : Bool) (rows : List Row) (question : RunQuestion) : Type 0 where
  pub run : AreRunRead draws rows question.run
  pub always : texts question.always.items ≡ all_of (codes "always") rows
  pub always_files : texts question.always_files.items ≡ all_of (codes "always-file") rows

-- the text and the script are both on standard input
abbrev pub reads_input_twice : RunSettings → Bool
reads_input_twice settings = is_input (Some settings.spec.now) && is_input (option_map (λ text. text.now) settings.script)

abbrev pub reads_task_twice : Task → Bool
reads_task_twice (All settings) = false
reads_task_twice (Random settings) = false
reads_task_twice (Choices question) = reads_input_twice question.run
reads_task_twice (Clash question) = reads_input_twice question.run
reads_task_twice (Show settings) = reads_input_twice settings.run

-- the choices are both read from a script and drawn
abbrev pub chooses_twice : RunSettings → Bool
chooses_twice settings = is_some settings.script && is_some settings.draw

-- the words ask for both from standard input
abbrev pub are_both_input : List Row → Bool
are_both_input rows = is_input (first_of (codes "spec") rows) && is_input (first_of (codes "script") rows)

-- the words ask for choices from a script, and for drawn ones, if these may be asked for
abbrev pub are_both_chosen : (draws : Bool) → List Row → Bool
are_both_chosen draws rows = draws && (is_some (first_of (codes "script") rows) && is_some (first_of (codes "draw") rows))

abbrev pub is_run_at_odds : (draws : Bool) → List Row → Bool
is_run_at_odds draws rows = are_both_input rows || are_both_chosen draws rows

abbrev pub AreRunTaken : (draws : Bool) → List Text → Type 0
AreRunTaken draws words = (run_refusals draws words ≡ []) × (is_run_at_odds draws (run_rows draws words) ≡ false)

abbrev pub AreRunSaid : (draws : Bool) → List Text → RunQuestion → Type 0
AreRunSaid draws words question = AreRunTaken draws words × IsQuestionRead draws (run_rows draws words) question

-- a page, or lines of JSON, are asked for
abbrev pub is_page_asked : List Row → Bool
is_page_asked rows = is_yes (first_of (codes "html") rows)

abbrev pub is_json_asked : List Row → Bool
is_json_asked rows = is_yes (first_of (codes "json") rows)

abbrev pub form_asked : List Row → ShowForm
form_asked rows = cond (is_page_asked rows) form.Page (cond (is_json_asked rows) form.Json form.Table)

-- both are asked for, or one of them and a width, which is only of a table
abbrev pub are_two_forms : List Row → Bool
are_two_forms rows = (is_page_asked rows && is_json_asked rows) || ((is_page_asked rows || is_json_asked rows) && is_said (codes "width") rows)

abbrev pub are_show_at_odds : List Row → Bool
are_show_at_odds rows = is_run_at_odds true rows || are_two_forms rows

pub record AreShowRead (rows : List Row) (settings : ShowSettings) : Type 0 where
  pub spec : first_of (codes "spec") rows ≡ Some settings.run.spec.now
  pub numbers : AreNumbers rows (show_numbers_of settings)
  pub script : option_map (λ text. text.now) settings.run.script ≡ first_of (codes "script") rows
  pub draw : MayBeUnsigned rows (codes "draw") settings.run.draw
  pub steps_said : settings.run.steps_said ≡ is_said (codes "steps") rows
  pub turns_said : settings.run.turns_said ≡ is_said (codes "turns") rows
  pub always : texts settings.always.items ≡ all_of (codes "always") rows
  pub always_files : texts settings.always_files.items ≡ all_of (codes "always-file") rows
  pub names : texts settings.names.items ≡ all_of (codes "only") rows
  pub form : settings.form ≡ form_asked rows

abbrev pub IsShowTaken : List Text → Type 0
IsShowTaken words = (show_refusals words ≡ []) × (are_show_at_odds (show_rows words) ≡ false)

abbrev pub AreShowSaid : List Text → ShowSettings → Type 0
AreShowSaid words settings = IsShowTaken words × AreShowRead (show_rows words) settings

-- ---- faults

abbrev pub IsRefusal : Kinds → WordFault → Type 0
IsRefusal kinds Memory = ⊤
IsRefusal kinds (Words error) = IsAmong (kind_of error) kinds

abbrev pub all_refusals : List Text → Kinds
all_refusals words = kinds.or_else (refusals words) (cond (are_at_odds words) (ArgumentConflict ∷ []) [])

abbrev pub one_run_refusals : (draws : Bool) → List Text → Kinds
one_run_refusals draws words =
    kinds.or_else (run_refusals draws words) (cond (is_run_at_odds draws (run_rows draws words)) (ArgumentConflict ∷ []) [])

abbrev pub show_odds : List Row → Kinds
show_odds rows = cond (are_show_at_odds rows) (ArgumentConflict ∷ []) []

abbrev pub all_show_refusals : List Text → Kinds
all_show_refusals words = kinds.or_else (show_refusals words) (show_odds (show_rows words))

abbrev pub IsFaultOf : Error → WordFault → Type 0
IsFaultOf error Memory = kind_of error ≡ OutOfMemory
IsFaultOf error (Words e) = (e ≡ error) × ¬ (kind_of error ≡ OutOfMemory)

-- ---- after the command

abbrev pub AreSaidBehind : List Text → Task → Type 0
AreSaidBehind [] task = ⊥
AreSaidBehind (command ∷ words) (All settings) = (command ≡ codes "all") × AreSaid words settings
AreSaidBehind (command ∷ words) (Random settings) = (command ≡ codes "random") × (random_refusals words ≡ []) × AreRandomSaid words settings
AreSaidBehind (command ∷ words) (Choices question) = (command ≡ codes "choices") × AreRunSaid true words question
AreSaidBehind (command ∷ words) (Clash question) = (command ≡ codes "clash") × AreRunSaid false words question
AreSaidBehind (command ∷ words) (Show settings) = (command ≡ codes "show") × AreShowSaid words settings

-- the kinds of what is wrong with the words after this command; `words` are all words
abbrev pub refusals_behind : (command : Text) → (rest words : List Text) → Kinds
refusals_behind command rest words =
    cond (bytes_eq command (codes "all")) (all_refusals rest)
    (cond (bytes_eq command (codes "random")) (random_refusals rest)
    (cond (bytes_eq command (codes "choices")) (one_run_refusals true rest)
    (cond (bytes_eq command (codes "clash")) (one_run_refusals false rest)
    (cond (bytes_eq command (codes "show")) (all_show_refusals rest)
    (command_refusals words)))))

abbrev pub task_refusals : List Text → Kinds
task_refusals [] = command_refusals []
task_refusals (command ∷ words) = refusals_behind command words (command ∷ words)

abbrev pub AskForHelp : Kinds → Type 0
AskForHelp kinds = IsAmong DisplayHelp kinds ⊎ IsAmong DisplayVersion kinds
