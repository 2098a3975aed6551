-- Bridge to the code. The graph that is drawn, as the code has it.
--     drawn run, drawn_of run     a run that is drawn, if there is one
--     IsTextOf asked names run text    what a text of a graph is of
--     graph_lines drawing         the lines, for what became of it
--     ExplainsWriting name text old new fault    why a file with this text isn't written
use Rattle.std.specs.Prelude.{◌≡◌, ℕ, List, [], ◌∷◌, None, Option, Some, option_map}
use Rattle.std.specs.String.{string_bytes}
use Rattle.asm_explore_words.specs.declared.fault.Fault.{Fault}
use Rattle.asm_explore_words.specs.declared.fault.Fault.TheVariants as fault
use Rattle.asm_explore_report.specs.ShownRuns.{shown}
use Rattle.asm_explore_all.specs.AskedQuestions.{AskedQuestion}
use Rattle.asm_explore_all.specs.DrawnGraphs.{Drawn, HasTooMany, IsGraphText, IsRunText, graph_note, run_note}
use Rattle.asm_explore_all.specs.MadeFiles.{MadeFile, StopsAt}
use Rattle.asm_explore_all.specs.declared.graph_file.DrawnRun.{DrawnRun}
use Rattle.asm_explore_all.specs.declared.graph_file.GraphFile.{GraphFile}
use Rattle.asm_explore_all.specs.declared.graph_file.GraphFile.TheVariants.{NotAsked, RunAlone, TooMany, Written}
use Rattle.asm_explore_all.specs.declared.graph_file.GraphText.{GraphText}
use Rattle.asm_explore_all.specs.declared.graph_file.GraphText.TheVariants as made

abbrev pub drawn : DrawnRun → Drawn
drawn run = (shown run.shown, run.last)

abbrev pub drawn_of : Option DrawnRun → Option Drawn
drawn_of run = option_map drawn run

-- which run is drawn alone
abbrev pub IsRunOf : AskedQuestion → (names : List (List ℕ)) → Option Drawn → List ℕ → Type 0
IsRunOf asked names None text = ⊥
IsRunOf asked names (Some run) text = IsRunText asked names run text

abbrev pub IsTextOf : AskedQuestion → (names : List (List ℕ)) → Option Drawn → GraphText → Type 0
IsTextOf asked names run (made.Whole text) = IsGraphText asked names run (string_bytes text)
IsTextOf asked names run (made.Run text) = HasTooMany asked × IsRunOf asked names run (string_bytes text)
IsTextOf asked names run made.TooMany = HasTooMany asked × (run ≡ None)

abbrev pub graph_lines : GraphFile → List (List ℕ)
graph_lines NotAsked = []
graph_lines Written = []
graph_lines RunAlone = run_note ∷ []
graph_lines TooMany = graph_note ∷ []

abbrev pub ExplainsWriting : (name text : List ℕ) → (old new : Option (List MadeFile)) → Fault → Type 0
ExplainsWriting name text old new (fault.Graph file) = (file.now ≡ name) × StopsAt old new file.now ((name, text) ∷ [])
ExplainsWriting name text old new (fault.Text refused) = ⊥
ExplainsWriting name text old new (fault.QuietScript file) = ⊥
ExplainsWriting name text old new (fault.Name file) = ⊥
ExplainsWriting name text old new fault.Memory = ⊥
ExplainsWriting name text old new fault.Unconfirmed = ⊥
