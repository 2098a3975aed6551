-- Definition. The graph that is drawn of an exploration of all runs.
--     Drawn                         the run that shows what is found, and the last step of it that is
--                                   drawn if it is drawn alone: that which shows the fault
--     drawn_in finding              the run for what is found, if a run shows it
--     IsSpelled, AreSpelled         the text of its script spells one
--     IsRed run steps path          these are the edges of this run; or none, if there is no run
--     IsRedText asked names run graph text    the text of a graph, in which this run is red. Nodes
--                                   show what these names name, or all if there are none
--     IsGraphText asked names run text    of the graph of the states
--     IsRunText asked names run text    of the graph of the run alone
--     HasTooMany asked              runs come to more than 2,000 states
--     IsDrawn asked names run file lines made    if a graph is asked for by the name of a file,
--                                   this file is made and has its text, and nothing is said; or it
--                                   has more than 2,000 states, and the file has the run alone, if
--                                   there is one, and else no file is made: which of both is said
--     ExplainsDrawing asked names run file old new fault
--                                   why the graph isn't drawn: memory ran out, and no file is made;
--                                   or this file can't be written
--     ExplainsNames s names fault    why these can't be the names of what nodes show: one isn't
--                                   known, the first of those; or memory ran out
use Rattle.std.specs.Prelude.{◌≡◌, ◌⊎◌, ⊤, ℕ, List, [], ◌∷◌, Option, Some, None, option_map, codes}
use Rattle.asm_reader.specs.ScriptLines.{Script}
use Rattle.asm_reader.specs.ScriptText.{IsScript}
use Rattle.asm_syntax.specs.SourceTree.{Spec}
use Rattle.asm_check.specs.Shapes.{shape_of}
use Rattle.asm_meaning.specs.Declarations.{specification_of}
use Rattle.asm_explore.specs.Conditions.{condition_holds}
use Rattle.asm_explore.specs.TooManyOutcomes.{IsCrowded}
use Rattle.asm_explore.specs.declared.exploration_result.Finding.{Finding}
use Rattle.asm_explore.specs.declared.exploration_result.Finding.TheVariants as finding
use Rattle.asm_explore_table.specs.Tables.{IsFirstUnknown}
use Rattle.asm_graph.specs.Dot.{IsDotOf}
use Rattle.asm_graph.specs.Graphs.{AreTooMany, IsGraph}
use Rattle.asm_graph.specs.PathGraphs.{IsPathGraph}
use Rattle.asm_graph.specs.Paths.{run_edges}
use Rattle.asm_graph.specs.declared.graph.Graph.{Graph}
use Rattle.asm_graph.specs.declared.graph.Step.{Step}
use Rattle.asm_explore_words.specs.declared.fault.Fault.{Fault}
use Rattle.asm_explore_words.specs.declared.fault.Fault.TheVariants as fault
use Rattle.asm_explore_report.specs.ShownRuns.{Shown, first_state, shown_bad}
use Rattle.asm_explore_all.specs.AskedQuestions.{AskedQuestion}
use Rattle.asm_explore_all.specs.MadeFiles.{MadeFile, Makes, StopsAt}

-- ---- the run

abbrev pub Drawn : Type 0
Drawn = Shown × ℕ

abbrev pub drawn_in : Finding → Option Drawn
drawn_in (finding.BadStep bad) = Some (shown_bad bad, bad.step)
drawn_in finding.WrongFirst = Some (first_state, 0)
drawn_in finding.Closed = None
drawn_in (finding.SafeTo depth) = None
drawn_in (finding.TooManyStates safe_to) = None
drawn_in (finding.TooManyOutcomes safe_to crowd) = None
drawn_in (finding.NoMemory safe_to) = None
drawn_in (finding.Unwritten unwritten) = None

abbrev pub IsSpelled : Shown → Type 0
IsSpelled run = (script : Script) × IsScript run.0 script

abbrev pub AreSpelled : Option Drawn → Type 0
AreSpelled None = ⊤
AreSpelled (Some run) = IsSpelled run.0

abbrev pub IsRed : Option Drawn → List Step → (path : List (ℕ × ℕ)) → Type 0
IsRed None steps path = path ≡ []
IsRed (Some run) steps path = (script : Script) × IsScript run.0.0 script × (path ≡ run_edges steps script run.0.1)

-- ---- texts

abbrev pub run_note : List ℕ
run_note = codes "only this run is drawn: more than 2000 states"

abbrev pub graph_note : List ℕ
graph_note = codes "no graph is written: more than 2000 states"

abbrev pub HasTooMany : AskedQuestion → Type 0
HasTooMany asked = AreTooMany (specification_of asked.spec) asked.turns (condition_holds asked.spec asked.within) asked.steps 2000

abbrev pub ExplainsNames : Spec → (names : List (List ℕ)) → Fault → Type 0
ExplainsNames s names (fault.Name name) = IsFirstUnknown s names name.now
ExplainsNames s names fault.Memory = ⊤
ExplainsNames s names (fault.Text refused) = ⊥
ExplainsNames s names (fault.Graph file) = ⊥
ExplainsNames s names (fault.QuietScript file) = ⊥
ExplainsNames s names fault.Unconfirmed = ⊥

module _ (asked : AskedQuestion) (names : List (List ℕ)) where
  abbrev pub IsRedText : Option Drawn → Graph → List ℕ → Type 0
  IsRedText run graph text = (path : List (ℕ × ℕ)) × IsRed run graph.steps.items path × IsDotOf asked.spec names asked.turns path graph text

  -- it has at most 2,000 states
  abbrev pub IsGraphText : Option Drawn → List ℕ → Type 0
  IsGraphText run text =
      (graph : Graph)
      × IsGraph (shape_of asked.spec) (specification_of asked.spec) asked.turns (condition_holds asked.spec asked.within) (IsCrowded (specification_of asked.spec) asked.turns asked.outcomes) asked.steps 2000
      (condition_holds asked.spec asked.always) (condition_holds asked.spec asked.when_quiet) graph
      × IsRedText run graph text

  abbrev pub IsRunText : Drawn → List ℕ → Type 0
  IsRunText run text =
      (script : Script) × IsScript run.0.0 script
      × ((graph : Graph)
      × IsPathGraph (shape_of asked.spec) (condition_holds asked.spec asked.always) (condition_holds asked.spec asked.when_quiet) (specification_of asked.spec) asked.turns script run.1 graph
      × IsRedText (Some run) graph text)

  -- what is drawn of too many states
  abbrev pub IsDrawnAlone : Option Drawn → (name : List ℕ) → (lines : List (List ℕ)) → (made : List MadeFile) → Type 0
  IsDrawnAlone None name lines made = (lines ≡ graph_note ∷ []) × (made ≡ [])
  IsDrawnAlone (Some run) name lines made = (text : List ℕ) × IsRunText run text × (lines ≡ run_note ∷ []) × (made ≡ (name, text) ∷ [])

  module _ (run : Option Drawn) where
    -- it is asked for by the name of a file
    abbrev pub IsDrawn : (file : Option (List ℕ)) → (lines : List (List ℕ)) → (made : List MadeFile) → Type 0
    IsDrawn None lines made = (lines ≡ []) × (made ≡ [])
    IsDrawn (Some name) lines made =
        ((text : List ℕ) × IsGraphText run text × (lines ≡ []) × (made ≡ (name, text) ∷ [])) ⊎ (HasTooMany asked × IsDrawnAlone run name lines made)

    abbrev pub ExplainsDrawing : (file : Option (List ℕ)) → (old new : Option (List MadeFile)) → Fault → Type 0
    ExplainsDrawing file old new fault.Memory = Makes old new []
    ExplainsDrawing file old new (fault.Graph name) =
        (file ≡ Some name.now) × ((lines : List (List ℕ)) × (drawn : List MadeFile) × IsDrawn file lines drawn × StopsAt old new name.now drawn)
    ExplainsDrawing file old new (fault.Text refused) = ⊥
    ExplainsDrawing file old new (fault.QuietScript name) = ⊥
    ExplainsDrawing file old new (fault.Name name) = ⊥
    ExplainsDrawing file old new fault.Unconfirmed = ⊥
