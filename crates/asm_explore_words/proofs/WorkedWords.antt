-- Free. The definitions at words that are written out.
use Rattle.std.proofs.Common.{◌≡◌, true, false, List, [], ◌∷◌, codes, refl, inl, inr}
use Rattle.clap.specs.Walk.{Text}
use Rattle.clap.specs.declared.error.kind.ErrorKind.TheVariants.{ArgumentConflict, InvalidSubcommand, MissingRequiredArgument, MissingSubcommand, UnknownArgument, ValueValidation}
use Rattle.clap.proofs.OnLiterals.{clap_on_literals}
use Rattle.asm_explore_words.specs.CommandLine.{command, commands, random_command, run_command, show_command}
use Rattle.asm_explore_words.specs.WordsSaid.{AskForHelp, form_asked, is_said, run_rows, show_rows, task_refusals}
use Rattle.asm_explore_words.specs.declared.settings.ShowForm.TheVariants as form

abbrev one : List Text
one = codes "x.asm" ∷ []

-- ---- what is taken

all_is_taken : task_refusals (codes "all" ∷ codes "--steps" ∷ codes "5" ∷ one) ≡ []
unfolding command clap_on_literals
all_is_taken = refl

random_is_taken : task_refusals (codes "random" ∷ codes "--seed=7" ∷ one) ≡ []
unfolding random_command clap_on_literals
random_is_taken = refl

deadlocks_are_taken : task_refusals (codes "random" ∷ codes "--deadlock-unless=true" ∷ codes "--outcomes" ∷ codes "9" ∷ one) ≡ []
unfolding random_command clap_on_literals
deadlocks_are_taken = refl

choices_are_taken : task_refusals (codes "choices" ∷ codes "-" ∷ codes "--script" ∷ codes "s" ∷ []) ≡ []
unfolding run_command clap_on_literals
choices_are_taken = refl

shown_is_taken : task_refusals (codes "show" ∷ codes "--only" ∷ codes "f" ∷ codes "--only" ∷ codes "age(2)" ∷ codes "--width=40" ∷ one) ≡ []
unfolding show_command clap_on_literals
shown_is_taken = refl

two_files_are_taken : task_refusals (codes "all" ∷ codes "--dot" ∷ codes "g" ∷ codes "--quiet" ∷ codes "s" ∷ one) ≡ []
unfolding command clap_on_literals
two_files_are_taken = refl

names_for_a_graph : task_refusals (codes "all" ∷ codes "--dot-only" ∷ codes "f" ∷ codes "--dot" ∷ codes "g" ∷ codes "--dot-only=age(2)" ∷ one) ≡ []
unfolding command clap_on_literals
names_for_a_graph = refl

table_beside_a_trace : task_refusals (codes "all" ∷ codes "--table" ∷ codes "--trace" ∷ one) ≡ []
unfolding command clap_on_literals
table_beside_a_trace = refl

table_of_a_random_run : task_refusals (codes "random" ∷ codes "--trace" ∷ codes "--table" ∷ one) ≡ []
unfolding random_command clap_on_literals
table_of_a_random_run = refl

drawn_choices : task_refusals (codes "choices" ∷ codes "--draw" ∷ codes "18446744073709551615" ∷ one) ≡ []
unfolding run_command clap_on_literals
drawn_choices = refl

drawn_and_shown : task_refusals (codes "show" ∷ codes "--draw=7" ∷ codes "-" ∷ []) ≡ []
unfolding show_command clap_on_literals
drawn_and_shown = refl

page_is_taken : task_refusals (codes "show" ∷ codes "--html" ∷ codes "--only" ∷ codes "f" ∷ one) ≡ []
unfolding show_command clap_on_literals
page_is_taken = refl

json_is_taken : task_refusals (codes "show" ∷ codes "-" ∷ codes "--json" ∷ []) ≡ []
unfolding show_command clap_on_literals
json_is_taken = refl

condition_beside_two_files : task_refusals (codes "all" ∷ codes "--dot" ∷ codes "g" ∷ codes "--quiet" ∷ codes "s" ∷ codes "--always-file" ∷ codes "f" ∷ codes "-" ∷ []) ≡ []
unfolding command clap_on_literals
condition_beside_two_files = refl

input_is_no_file : task_refusals (codes "all" ∷ codes "--dot" ∷ codes "-" ∷ codes "-" ∷ []) ≡ []
unfolding command clap_on_literals
input_is_no_file = refl

-- ---- what is refused

no_words : task_refusals [] ≡ MissingSubcommand ∷ []
unfolding commands command random_command run_command show_command clap_on_literals
no_words = refl

no_command : task_refusals one ≡ UnknownArgument ∷ InvalidSubcommand ∷ []
unfolding commands command random_command run_command show_command clap_on_literals
no_command = refl

misspelt_option : task_refusals (codes "all" ∷ codes "--stepz" ∷ codes "5" ∷ one) ≡ UnknownArgument ∷ []
unfolding command clap_on_literals
misspelt_option = refl

too_many_steps : task_refusals (codes "all" ∷ codes "--steps" ∷ codes "1000001" ∷ one) ≡ ValueValidation ∷ []
unfolding command clap_on_literals
too_many_steps = refl

no_text : task_refusals (codes "clash" ∷ []) ≡ MissingRequiredArgument ∷ []
unfolding run_command clap_on_literals
no_text = refl

both_are_input : task_refusals (codes "clash" ∷ codes "-" ∷ codes "--script" ∷ codes "-" ∷ []) ≡ ArgumentConflict ∷ []
unfolding run_command clap_on_literals
both_are_input = refl

too_narrow : task_refusals (codes "show" ∷ codes "--width" ∷ codes "39" ∷ one) ≡ ValueValidation ∷ []
unfolding show_command clap_on_literals
too_narrow = refl

both_are_shown_input : task_refusals (codes "show" ∷ codes "-" ∷ codes "--script" ∷ codes "-" ∷ []) ≡ ArgumentConflict ∷ []
unfolding show_command clap_on_literals
both_are_shown_input = refl

drawn_and_read : task_refusals (codes "choices" ∷ codes "--draw" ∷ codes "7" ∷ codes "--script" ∷ codes "s" ∷ one) ≡ ArgumentConflict ∷ []
unfolding run_command clap_on_literals
drawn_and_read = refl

drawn_and_read_and_shown : task_refusals (codes "show" ∷ codes "--script" ∷ codes "s" ∷ codes "--draw=0" ∷ one) ≡ ArgumentConflict ∷ []
unfolding show_command clap_on_literals
drawn_and_read_and_shown = refl

page_and_json : task_refusals (codes "show" ∷ codes "--json" ∷ codes "--html" ∷ one) ≡ ArgumentConflict ∷ []
unfolding show_command clap_on_literals
page_and_json = refl

width_of_a_page : task_refusals (codes "show" ∷ codes "--html" ∷ codes "--width=100" ∷ one) ≡ ArgumentConflict ∷ []
unfolding show_command clap_on_literals
width_of_a_page = refl

width_of_json : task_refusals (codes "show" ∷ codes "--width" ∷ codes "40" ∷ codes "--json" ∷ one) ≡ ArgumentConflict ∷ []
unfolding show_command clap_on_literals
width_of_json = refl

clash_draws_nothing : task_refusals (codes "clash" ∷ codes "--draw" ∷ codes "7" ∷ one) ≡ UnknownArgument ∷ []
unfolding run_command clap_on_literals
clash_draws_nothing = refl

seed_of_65_bits : task_refusals (codes "choices" ∷ codes "--draw" ∷ codes "18446744073709551616" ∷ one) ≡ ValueValidation ∷ []
unfolding run_command clap_on_literals
seed_of_65_bits = refl

names_without_a_graph : task_refusals (codes "all" ∷ codes "--dot-only" ∷ codes "f" ∷ codes "--quiet" ∷ codes "s" ∷ one) ≡ ArgumentConflict ∷ []
unfolding command clap_on_literals
names_without_a_graph = refl

both_are_one_file : task_refusals (codes "all" ∷ codes "--dot" ∷ codes "f" ∷ codes "--quiet" ∷ codes "f" ∷ one) ≡ ArgumentConflict ∷ []
unfolding command clap_on_literals
both_are_one_file = refl

graph_over_text : task_refusals (codes "all" ∷ codes "--dot" ∷ codes "x.asm" ∷ one) ≡ ArgumentConflict ∷ []
unfolding command clap_on_literals
graph_over_text = refl

script_over_text : task_refusals (codes "all" ∷ codes "--quiet" ∷ codes "x.asm" ∷ one) ≡ ArgumentConflict ∷ []
unfolding command clap_on_literals
script_over_text = refl

graph_over_condition : task_refusals (codes "all" ∷ codes "--always-file" ∷ codes "f" ∷ codes "--always-file" ∷ codes "g" ∷ codes "--dot" ∷ codes "g" ∷ one) ≡ ArgumentConflict ∷ []
unfolding command clap_on_literals
graph_over_condition = refl

script_over_condition : task_refusals (codes "all" ∷ codes "--quiet" ∷ codes "f" ∷ codes "--always-file" ∷ codes "f" ∷ one) ≡ ArgumentConflict ∷ []
unfolding command clap_on_literals
script_over_condition = refl

-- ---- what is said of a run

steps_are_said : is_said (codes "steps") (run_rows true (codes "--steps=1000" ∷ one)) ≡ true
unfolding run_command clap_on_literals
steps_are_said = refl

turns_are_not_said : is_said (codes "turns") (run_rows true (codes "--steps=1000" ∷ one)) ≡ false
unfolding run_command clap_on_literals
turns_are_not_said = refl

turns_are_said_alone : is_said (codes "steps") (show_rows (codes "--turns" ∷ codes "9" ∷ one)) ≡ false
unfolding show_command clap_on_literals
turns_are_said_alone = refl

page_of_a_run : form_asked (show_rows (codes "--html" ∷ one)) ≡ form.Page
unfolding show_command clap_on_literals
page_of_a_run = refl

table_of_a_run : form_asked (show_rows one) ≡ form.Table
unfolding show_command clap_on_literals
table_of_a_run = refl

-- ---- what is asked for

help : AskForHelp (task_refusals (codes "--help" ∷ []))
unfolding commands command random_command run_command show_command clap_on_literals
help = inl (inl refl)

help_of_all : AskForHelp (task_refusals (codes "all" ∷ codes "-h" ∷ []))
unfolding command clap_on_literals
help_of_all = inl (inl refl)

version : AskForHelp (task_refusals (codes "--version" ∷ []))
unfolding commands command random_command run_command show_command clap_on_literals
version = inr (inl refl)

help_as_a_command : AskForHelp (task_refusals (codes "help" ∷ []))
unfolding commands command random_command run_command show_command clap_on_literals
help_as_a_command = inl (inl refl)
