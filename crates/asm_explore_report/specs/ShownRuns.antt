-- Definition. The run that a report shows.
--     Shown                 the text of its script, and the number of its steps
--     shown_of run          the same of what the code has
--     script_of shown       its script, if there is one
--     shown_bad bad         the run that goes wrong, up to the state or the step that shows it
--     first_state           the run of no steps
use Rattle.std.specs.Prelude.{ℕ, List, [], Option, Some, None, option_map}
use Rattle.std.specs.String.{string_bytes}
use Rattle.asm_explore.specs.Search.{steps_to}
use Rattle.asm_explore.specs.declared.exploration_result.BadRun.{BadRun}
use Rattle.asm_explore_report.specs.declared.shown_run.ShownRun.{ShownRun}

abbrev pub Shown : Type 0
Shown = List ℕ × ℕ

abbrev pub shown : ShownRun → Shown
shown run = (run.script.now, run.steps)

abbrev pub shown_of : Option ShownRun → Option Shown
shown_of run = option_map shown run

abbrev pub script_of : Option Shown → List ℕ
script_of None = []
script_of (Some run) = run.0

abbrev pub shown_bad : BadRun → Shown
shown_bad bad = (string_bytes bad.script, steps_to bad.fault bad.step)

abbrev pub first_state : Shown
first_state = ([], 0)
