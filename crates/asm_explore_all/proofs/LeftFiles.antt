-- Free. Why there is no report, and the files that are left.
--     of_asking       nothing can be asked
--     of_names        the names of what nodes are to show aren't all known
--     files_of        the files for what is found
--     of_graph        the graph can't be drawn
--     of_script       the script can't be written, after the graph
--     of_printing     the report can't be given, after both are written
use Rattle.std.proofs.Common.{◌≡◌, ℕ, List, ◌++◌, Option, inl, inr, refl, true}
use Rattle.std.specs.Prelude.{All, option_map}
use Rattle.asm_syntax.specs.SourceTree.{Spec}
use Rattle.asm_run.specs.Headline.{IsAccepted}
use Rattle.asm_explore.specs.declared.exploration_result.ExplorationResult.{ExplorationResult}
use Rattle.asm_explore_texts.specs.RefusedTexts.{ExplainsText}
use Rattle.asm_explore_texts.specs.declared.conditions.Conditions.{Conditions}
use Rattle.asm_explore_words.specs.UnshownRuns.{fault_of_unshown}
use Rattle.asm_explore_words.specs.declared.fault.Fault.{Fault}
use Rattle.asm_explore_words.specs.declared.fault.Fault.TheVariants as fault
use Rattle.asm_explore_words.specs.declared.fault.Unshown.{Unshown}
use Rattle.asm_explore_words.specs.declared.fault.Unshown.TheVariants as unshown
use Rattle.asm_explore_words.specs.declared.settings.Settings.{Settings}
use Rattle.asm_explore_table.specs.Tables.{is_known}
use Rattle.asm_explore_report.specs.Refusals.{IsQuestionRefused}
use Rattle.asm_explore_all.specs.AllFacts.{ExplainsScript, quiet_files}
use Rattle.asm_explore_all.specs.DrawnGraphs.{ExplainsDrawing, ExplainsNames, IsDrawn, drawn_in}
use Rattle.asm_explore_all.specs.AllReport.{AreFilesOf, ExplainsAll, names_drawn}
use Rattle.asm_explore_all.specs.AskedQuestions.{IsExplored}
use Rattle.asm_explore_all.specs.MadeFiles.{MadeFile, Makes}
use Rattle.asm_explore_all.proofs.GrowingFiles.{first_all, makes_both, makes_none, stops_after, stops_more}

pub of_asking : (text : List ℕ) (conditions : Conditions) (settings : Settings) (known : Option (List MadeFile)) (why : Fault)
    → ExplainsText (IsQuestionRefused text settings.spec.now conditions) why → ExplainsAll text conditions settings known known why
of_asking text conditions settings known (fault.Text refused) h = (h.0, makes_none known)
of_asking text conditions settings known fault.Memory h = inl (makes_none known)
of_asking text conditions settings known fault.Unconfirmed h = absurd h.1
of_asking text conditions settings known (fault.Graph name) h = absurd h.1
of_asking text conditions settings known (fault.QuietScript name) h = absurd h.1
of_asking text conditions settings known (fault.Name name) h = absurd h.1

pub of_names : (text : List ℕ) (conditions : Conditions) (settings : Settings) (known : Option (List MadeFile)) (s : Spec) → IsAccepted text s → (why : Fault)
    → ExplainsNames s (names_drawn settings) why → ExplainsAll text conditions settings known known why
of_names text conditions settings known s accepted (fault.Name name) first = ((s, accepted, first), makes_none known)
of_names text conditions settings known s accepted fault.Memory h = inl (makes_none known)
of_names text conditions settings known s accepted (fault.Text refused) h = absurd h
of_names text conditions settings known s accepted (fault.Graph name) h = absurd h
of_names text conditions settings known s accepted (fault.QuietScript name) h = absurd h
of_names text conditions settings known s accepted fault.Unconfirmed h = absurd h

abbrev graph_name : Settings → Option (List ℕ)
graph_name settings = option_map (λ name. name.now) settings.dot

abbrev script_name : Settings → Option (List ℕ)
script_name settings = option_map (λ name. name.now) settings.quiet

abbrev scripts : Settings → ExplorationResult → List MadeFile
scripts settings answer = quiet_files (script_name settings) answer.first_quiet

module _ (text : List ℕ) (conditions : Conditions) (settings : Settings) (answer : ExplorationResult) (explored : IsExplored text conditions settings answer)
    (known : All (λ name. is_known explored.asked.spec name ≡ true) (names_drawn settings)) where
  abbrev pub files_of : (graph : List (List ℕ)) (drawn : List MadeFile) → IsDrawn explored.asked (names_drawn settings) (drawn_in answer.finding) (graph_name settings) graph drawn → AreFilesOf text conditions settings (drawn ++ scripts settings answer)
  files_of graph drawn is = record { answer = answer; explored = explored; known = known; graph = graph; drawn = drawn; is_drawn = is; are = refl }

  pub of_graph : (old new : Option (List MadeFile)) (why : Fault) → ExplainsDrawing explored.asked (names_drawn settings) (drawn_in answer.finding) (graph_name settings) old new why → ExplainsAll text conditions settings old new why
  of_graph old new fault.Memory none = inl none
  of_graph old new (fault.Graph name) (same, (graph, drawn, is, stops)) =
      (same, (drawn ++ scripts settings answer, files_of graph drawn is, stops_more old new name.now drawn (scripts settings answer) stops))
  of_graph old new (fault.Text refused) h = absurd h
  of_graph old new (fault.QuietScript name) h = absurd h
  of_graph old new (fault.Name name) h = absurd h
  of_graph old new fault.Unconfirmed h = absurd h

  module _ (old mid new : Option (List MadeFile)) (graph : List (List ℕ)) (drawn : List MadeFile) (is : IsDrawn explored.asked (names_drawn settings) (drawn_in answer.finding) (graph_name settings) graph drawn) (makes : Makes old mid drawn) where
    pub of_script : (why : Fault) → ExplainsScript (script_name settings) answer.first_quiet mid new why → ExplainsAll text conditions settings old new why
    of_script (fault.QuietScript name) (same, stops) =
        (same, (drawn ++ scripts settings answer, files_of graph drawn is, stops_after old mid new name.now drawn (scripts settings answer) makes stops))
    of_script fault.Memory h = absurd h
    of_script (fault.Graph name) h = absurd h
    of_script (fault.Name name) h = absurd h
    of_script (fault.Text refused) h = absurd h
    of_script fault.Unconfirmed h = absurd h

    abbrev all_files : List MadeFile
    all_files = drawn ++ scripts settings answer

    pub of_printing : (why : Unshown) → Makes mid new (scripts settings answer) → ExplainsAll text conditions settings old new (fault_of_unshown why)
    of_printing unshown.Memory more =
        inr (all_files, files_of graph drawn is, first_all old new all_files (makes_both old mid new drawn (scripts settings answer) makes more))
    of_printing unshown.Unconfirmed more = (all_files, files_of graph drawn is, makes_both old mid new drawn (scripts settings answer) makes more)
