-- Definition. What is printed of an exploration of all runs.
--     status_of finding             the status
--     WordsTell                     the words, and a line, are of the fault that is found, if there is
--                                   one
--     IsReport                      the first comment says what is found, the second why, if a
--                                   condition isn't true, the others are the facts, and, if they are
--                                   asked for, the table and the trace of the run that is found; and
--                                   the script is that of this run
--     names_drawn settings          the names of what nodes of the graph are to show
--     AreFilesOf files              the files for what is found of the specification with this text:
--                                   of the graph of states and of the script to the first quiet
--                                   state. Each name is known of what nodes are to show
--     IsReported                    what is printed says what is found, and these files are made
--     IsReportedBy                  the files that are known to be made grow by these
--     StopsInFiles                  the files that are known to be made grow by those before the one
--                                   of this name, which may be cut
--     MakesFirstFiles               no file is made, or the first of them are
--     ExplainsAll                   why there is no report, and what is made: a text is refused, or
--                                   no location has a name of what nodes are to show, nor the
--                                   function of one, and no file is made; the file of the graph or of
--                                   the script can't be written; memory ran out; or the run that was
--                                   found isn't confirmed, and all files are made
use Rattle.std.specs.Prelude.{◌≡◌, ◌⊎◌, All, ℕ, true, List, [], ◌++◌, map, Option, Some, option_map, ⊤}
use Rattle.asm_syntax.specs.SourceTree.{Spec, Term}
use Rattle.asm_meaning.specs.Declarations.{specification_of}
use Rattle.asm_run.specs.Headline.{IsAccepted}
use Rattle.asm_explore.specs.declared.exploration_result.ExplorationResult.{ExplorationResult}
use Rattle.asm_explore.specs.declared.exploration_result.Finding.{Finding}
use Rattle.asm_explore.specs.declared.exploration_result.Finding.TheVariants as finding
use Rattle.asm_explore_texts.specs.declared.conditions.Conditions.{Conditions}
use Rattle.asm_explore_words.specs.declared.fault.Fault.{Fault}
use Rattle.asm_explore_words.specs.declared.fault.Fault.TheVariants as fault
use Rattle.asm_explore_words.specs.declared.settings.Settings.{Settings}
use Rattle.asm_explore_table.specs.Tables.{IsFirstUnknown, is_known}
use Rattle.asm_explore_report.specs.FaultWords.{BadTells, IsBroken, unwritten_words}
use Rattle.asm_explore_report.specs.Refusals.{IsQuestionRefused}
use Rattle.asm_explore_report.specs.declared.report.Report.{Report}
use Rattle.asm_explore_run.specs.PrintedRun.{IsPrintedRun}
use Rattle.asm_explore_all.specs.AllFacts.{AreFacts, quiet_files, shown_in}
use Rattle.asm_explore_all.specs.AskedQuestions.{AskedQuestion, IsExplored}
use Rattle.asm_explore_all.specs.DrawnGraphs.{IsDrawn, drawn_in}
use Rattle.asm_explore_all.specs.FindingLine.{first_line}
use Rattle.asm_explore_all.specs.MadeFiles.{MadeFile, Makes, MakesFirst, StopsAt}

abbrev pub status_of : Finding → ℕ
status_of finding.Closed = 0
status_of (finding.SafeTo depth) = 0
status_of (finding.BadStep bad) = 1
status_of finding.WrongFirst = 1
status_of (finding.Unwritten unwritten) = 1
status_of (finding.TooManyStates safe_to) = 5
status_of (finding.TooManyOutcomes safe_to crowd) = 5
status_of (finding.NoMemory safe_to) = 5

abbrev pub WordsTell : Spec → List Term → (turns : ℕ) → Finding → (words : List ℕ) → (lines : List (List ℕ)) → Type 0
WordsTell s terms turns (finding.BadStep bad) words lines = BadTells s terms turns bad words lines
WordsTell s terms turns finding.WrongFirst words lines = IsBroken s terms (specification_of s).initial words lines
WordsTell s terms turns finding.Closed words lines = lines ≡ []
WordsTell s terms turns (finding.SafeTo depth) words lines = lines ≡ []
WordsTell s terms turns (finding.TooManyStates safe_to) words lines = lines ≡ []
WordsTell s terms turns (finding.TooManyOutcomes safe_to crowd) words lines = lines ≡ []
WordsTell s terms turns (finding.NoMemory safe_to) words lines = lines ≡ []
WordsTell s terms turns (finding.Unwritten unwritten) words lines = (words ≡ unwritten_words) × (lines ≡ [])

abbrev pub names_drawn : Settings → List (List ℕ)
names_drawn settings = map (λ name. name.now) settings.dot_only.items

module _ (text : List ℕ) (conditions : Conditions) (settings : Settings) where
  pub record IsReport (asked : AskedQuestion) (terms : List Term) (answer : ExplorationResult) (graph : List (List ℕ)) (printed : List ℕ) : Type 0 where
    pub words : List ℕ
    pub because : List (List ℕ)
    pub tell : WordsTell asked.spec terms asked.turns answer.finding words because
    pub facts : List (List ℕ)
    pub are_facts : AreFacts text conditions settings answer graph facts
    pub are_printed :
        IsPrintedRun text asked.spec asked.turns settings.table settings.trace (first_line answer.finding words) (because ++ facts) (shown_in answer.finding) printed

  pub record AreFilesOf (files : List MadeFile) : Type 0 where
    pub answer : ExplorationResult
    pub explored : IsExplored text conditions settings answer
    pub known : All (λ name. is_known explored.asked.spec name ≡ true) (names_drawn settings)
    -- what is said of the graph, and its file
    pub graph : List (List ℕ)
    pub drawn : List MadeFile
    pub is_drawn : IsDrawn explored.asked (names_drawn settings) (drawn_in answer.finding) (option_map (λ name. name.now) settings.dot) graph drawn
    pub are : files ≡ drawn ++ quiet_files (option_map (λ name. name.now) settings.quiet) answer.first_quiet

  pub record IsReported (report : Report) (files : List MadeFile) : Type 0 where
    pub found : AreFilesOf files
    pub status : report.status ≡ status_of found.answer.finding
    pub printed : IsReport found.explored.asked found.explored.is_asked.terms found.answer found.graph report.text.items

  abbrev pub IsReportedBy : (old new : Option (List MadeFile)) → Report → Type 0
  IsReportedBy old new report = (files : List MadeFile) × Makes old new files × IsReported report files

  -- ---- without a report

  abbrev pub StopsInFiles : (old new : Option (List MadeFile)) → (name : List ℕ) → Type 0
  StopsInFiles old new name = (files : List MadeFile) × AreFilesOf files × StopsAt old new name files

  abbrev pub MakesFirstFiles : (old new : Option (List MadeFile)) → Type 0
  MakesFirstFiles old new = Makes old new [] ⊎ ((files : List MadeFile) × AreFilesOf files × MakesFirst old new files)

  abbrev pub ExplainsAll : (old new : Option (List MadeFile)) → Fault → Type 0
  ExplainsAll old new (fault.Text refused) = IsQuestionRefused text settings.spec.now conditions refused × Makes old new []
  ExplainsAll old new (fault.Graph name) = (option_map (λ file. file.now) settings.dot ≡ Some name.now) × StopsInFiles old new name.now
  ExplainsAll old new (fault.QuietScript name) = (option_map (λ file. file.now) settings.quiet ≡ Some name.now) × StopsInFiles old new name.now
  ExplainsAll old new (fault.Name name) = ((s : Spec) × IsAccepted text s × IsFirstUnknown s (names_drawn settings) name.now) × Makes old new []
  ExplainsAll old new fault.Memory = MakesFirstFiles old new
  ExplainsAll old new fault.Unconfirmed = (files : List MadeFile) × AreFilesOf files × Makes old new files
