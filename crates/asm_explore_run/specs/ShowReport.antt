-- Definition. What is printed of a run that is shown: a table, a page of HTML, or lines of JSON.
--     names_shown settings      the names that are to be shown
--     words_of                  what is said of the run beside its rows, but in a table
--     IsScriptPart              the text of the script that the run needs, or a comment that says
--                               that it is left out, where it can't be written
--     IsShowText                comments: how the run ends, and why; a call of `asm` that makes it;
--                               the table; the assignments by which it ends; and the lines of the
--                               given script that name no choice. Behind them stands the script;
--                               and all that is printed is one that says the same, unless it is too
--                               long
--     IsShownText form          what is printed in this form
--     IsShown                   the run that settings ask for is shown so; how, further settings say
--     IsWithoutRefusal          no text is refused, and each name is known that is to be shown
--     ExplainsShow              why there is no report: a text is refused; no location has a name
--                               that is to be shown, nor the function of one; memory ran out; or the
--                               run of texts that aren't refused is
use Rattle.std.specs.Prelude.{◌≡◌, ◌⊎◌, ◌<◌, All, ℕ, true, List, [], ◌∷◌, ◌++◌, length, map, codes, ⊤}
use Rattle.asm_syntax.specs.SourceTree.{Spec, Term}
use Rattle.asm_reader.specs.ScriptLines.{Script}
use Rattle.asm_reader.specs.ScriptText.{IsScript, max_script}
use Rattle.asm_meaning.specs.Declarations.{specification_of}
use Rattle.asm_run.specs.Headline.{IsAccepted}
use Rattle.asm_explore.specs.ChosenLines.{AreTooLong, IsChosenText, chosen_lines}
use Rattle.asm_explore.specs.RunChoices.{AreChoices, lines_forward}
use Rattle.asm_explore.specs.declared.outcomes.listed_outcome.Choice.{Choice}
use Rattle.asm_explore_texts.specs.Comments.{comments}
use Rattle.asm_explore_texts.specs.Conditions.{AreAskedOf, texts_of}
use Rattle.asm_explore_texts.specs.RefusedTexts.{IsOneRefused}
use Rattle.asm_explore_texts.specs.declared.conditions.Condition.{Condition}
use Rattle.asm_explore_table.specs.JsonRows.{json_text}
use Rattle.asm_explore_table.specs.Pages.{page_text}
use Rattle.asm_explore_table.specs.Rows.{rows_of}
use Rattle.asm_explore_table.specs.RunWords.{RunWords}
use Rattle.asm_explore_table.specs.Tables.{IsFirstUnknown, IsTable, is_known}
use Rattle.asm_explore_report.specs.Commands.{command}
use Rattle.asm_explore_report.specs.Refusals.{IsRunRefused}
use Rattle.asm_explore_report.specs.declared.report.Report.{Report}
use Rattle.asm_explore_run.specs.AskedRun.{run_status}
use Rattle.asm_explore_run.specs.ShownRun.{IsShownEnd, ShownEnd}
use Rattle.asm_explore_run.specs.UnmetLines.{unmet_lines}
use Rattle.asm_explore_words.specs.declared.fault.Fault.{Fault}
use Rattle.asm_explore_words.specs.declared.fault.Fault.TheVariants as fault
use Rattle.asm_explore_words.specs.declared.settings.RunSettings.{RunSettings}
use Rattle.asm_explore_words.specs.declared.settings.ShowForm.{ShowForm}
use Rattle.asm_explore_words.specs.declared.settings.ShowForm.TheVariants as form
use Rattle.asm_explore_words.specs.declared.settings.ShowSettings.{ShowSettings}

abbrev pub names_shown : ShowSettings → List (List ℕ)
names_shown settings = map (λ name. name.now) settings.names.items

abbrev pub words_of : (turns : ℕ) → (spec : List ℕ) → ShownEnd → (unmet : List (List ℕ)) → RunWords
words_of turns spec end unmet =
    record {
      name = spec;
      end = end.first;
      because = end.because;
      command = command end.steps turns spec;
      assignments = end.assignments;
      unmet = unmet;
      is_fault = end.is_fault;
    }

module _ (tree : Spec) (turns : ℕ) (script : Script) where
  abbrev pub IsScriptPart : (steps : ℕ) → List ℕ → Type 0
  IsScriptPart steps part =
      IsChosenText (specification_of tree) turns script steps part
      ⊎ (AreTooLong (chosen_lines (specification_of tree) turns script steps) × (part ≡ comments (codes "left out: the script" ∷ [])))

  pub record IsShowText (spec : List ℕ) (names : List (List ℕ)) (most : ℕ) (end : ShownEnd) (unmet : List (List ℕ)) (printed : List ℕ) : Type 0 where
    pub table : List (List ℕ)
    pub is_table : IsTable tree names most (specification_of tree).initial (rows_of tree turns script end.steps) table
    pub part : List ℕ
    pub is_part : IsScriptPart end.steps part
    pub is :
        let behind = end.because ++ (command end.steps turns spec ∷ (table ++ (end.assignments ++ unmet))) in
        printed ≡ comments (end.first ∷ behind) ++ part
    -- it spells what this part does, unless it is too long for a script
    pub says : (said : Script) → IsScript part said → IsScript printed said ⊎ (max_script < length printed)

  abbrev pub IsShownText : ShowForm → (spec : List ℕ) → (names : List (List ℕ)) → (most : ℕ) → ShownEnd → (unmet : List (List ℕ)) → (printed : List ℕ) → Type 0
  IsShownText form.Table spec names most end unmet printed = IsShowText spec names most end unmet printed
  IsShownText form.Page spec names most end unmet printed =
      printed ≡ page_text tree names (words_of turns spec end unmet) (specification_of tree).initial (rows_of tree turns script end.steps)
  IsShownText form.Json spec names most end unmet printed =
      printed ≡ json_text tree names (words_of turns spec end unmet) (specification_of tree).initial (rows_of tree turns script end.steps)

module _ (text script_text : List ℕ) (conditions : List Condition) (run : RunSettings) (settings : ShowSettings) where
  pub record IsShown (report : Report) : Type 0 where
    pub tree : Spec
    pub accepted : IsAccepted text tree
    pub script : Script
    pub spelled : IsScript script_text script
    pub terms : List Term
    pub asked : AreAskedOf tree (texts_of conditions) terms
    pub known : All (λ name. is_known tree name ≡ true) (names_shown settings)
    pub end : ShownEnd
    pub is_end : IsShownEnd text tree terms run.turns script run.steps end
    pub steps : List (List Choice)
    pub choices : AreChoices tree run.turns script end.steps steps
    pub printed : IsShownText tree run.turns script settings.form run.spec.now (names_shown settings) settings.width end (unmet_lines script_text (lines_forward steps)) report.text.items
    pub status : report.status ≡ run_status end.is_fault (unmet_lines script_text (lines_forward steps))

  pub record IsWithoutRefusal : Type 0 where
    pub tree : Spec
    pub accepted : IsAccepted text tree
    pub script : Script
    pub spelled : IsScript script_text script
    pub terms : List Term
    pub asked : AreAskedOf tree (texts_of conditions) terms
    pub known : All (λ name. is_known tree name ≡ true) (names_shown settings)

  abbrev pub ExplainsShow : Fault → Type 0
  ExplainsShow (fault.Text refused) = IsRunRefused text run.spec.now script_text run refused ⊎ ((s : Spec) × IsAccepted text s × IsOneRefused s conditions refused)
  ExplainsShow (fault.Name name) = (s : Spec) × IsAccepted text s × IsFirstUnknown s (names_shown settings) name.now
  ExplainsShow fault.Memory = ⊤
  ExplainsShow fault.Unconfirmed = IsWithoutRefusal
  ExplainsShow (fault.Graph name) = ⊥
  ExplainsShow (fault.QuietScript name) = ⊥
