-- Definition. What is printed of one run.
--     run_asked tree settings script  the run that settings ask for
--     assignments_in, count_in        the first assignments by which a run ends, if it has such, and
--                                     how many there are
--     AreChoicesReported              what is printed is how the run ends, in comments, and a script
--                                     with a line for each choice that it makes up to there, under
--                                     which the run is the same up to there, each behind a comment
--                                     with its candidates; and comments for the lines of the given
--                                     script that name no choice of the run. Where that has no text,
--                                     it is the first comment
--     IsBrokenClash, IsWholeClash     comments: which condition isn't true for the first time, and
--                                     why; or how the run ends, and one for each assignment by which
--                                     it does, as many as fit into a script
--     IsClashReported                 what is printed is the one or the other
--     AreTextsTaken                   no text is refused, nor a condition
--     ExplainsRun                     why there is no report: a text is refused, memory ran out, or
--                                     the run of texts that aren't is refused
use Rattle.std.specs.Prelude.{◌≡◌, ◌⊎◌, ℕ, Bool, List, [], ◌∷◌, ⊤}
use Rattle.asm_syntax.specs.SourceTree.{Spec, Term}
use Rattle.asm_reader.specs.ExactLines.{exactly}
use Rattle.asm_reader.specs.ScriptLines.{Script}
use Rattle.asm_reader.specs.ScriptText.{IsScript}
use Rattle.asm_meaning.specs.Declarations.{specification_of}
use Rattle.asm_meaning.specs.Run.{Run, run}
use Rattle.asm_explore.specs.ChoicePoints.{Asking}
use Rattle.asm_explore.specs.RunChoices.{AreAsked, AreChoices, MakesTheRun, lines_forward}
use Rattle.asm_explore.specs.declared.outcomes.listed_outcome.Choice.{Choice}
use Rattle.asm_run.specs.Headline.{IsAccepted, IsReturned}
use Rattle.asm_run.specs.Written.{names_in}
use Rattle.asm_run.specs.declared.end.End as shown
use Rattle.asm_clash.specs.ClashOfRun.{EndsSo}
use Rattle.asm_clash.specs.declared.assignment.Assignment.{Assignment}
use Rattle.asm_clash.specs.declared.clash.ClashOfRun.{ClashOfRun}
use Rattle.asm_clash.specs.declared.clash.ClashOfRun.TheVariants as clash
use Rattle.asm_explore_texts.specs.Comments.{comments}
use Rattle.asm_explore_texts.specs.Conditions.{AreAskedOf, texts_of}
use Rattle.asm_explore_texts.specs.RefusedTexts.{IsOneRefused}
use Rattle.asm_explore_texts.specs.declared.conditions.Condition.{Condition}
use Rattle.asm_explore_report.specs.Commented.{HasNoText}
use Rattle.asm_explore_run.specs.AskedRun.{IsAskedEnd, IsBrokenRun, IsWholeRun, is_fault, run_status}
use Rattle.asm_explore_run.specs.ChoicesText.{IsChoicesText}
use Rattle.asm_explore_run.specs.ClashText.{IsClashText, greatest_shown}
use Rattle.asm_explore_run.specs.UnmetLines.{unmet_lines}
use Rattle.asm_explore_report.specs.Refusals.{IsRunRefused}
use Rattle.asm_explore_report.specs.declared.report.Report.{Report}
use Rattle.asm_explore_words.specs.declared.fault.Fault.{Fault}
use Rattle.asm_explore_words.specs.declared.fault.Fault.TheVariants as fault
use Rattle.asm_explore_words.specs.declared.settings.RunSettings.{RunSettings}

abbrev pub run_asked : Spec → RunSettings → Script → Run
run_asked tree settings script = run (specification_of tree) settings.turns script settings.steps

-- ---- what is printed

abbrev pub assignments_in : ClashOfRun → List Assignment
assignments_in clash.Limit = []
assignments_in (clash.Exhausted step q) = []
assignments_in (clash.Faulty step fault found count) = found.items

abbrev pub count_in : ClashOfRun → ℕ
count_in clash.Limit = 0
count_in (clash.Exhausted step q) = 0
count_in (clash.Faulty step fault found count) = count

module _ (tree : Spec) (terms : List Term) (script : Script) (settings : RunSettings) (report : Report) where
  pub record IsBrokenClash : Type 0 where
    pub first : List ℕ
    pub because : List (List ℕ)
    pub made : ℕ
    pub broken : IsBrokenRun tree terms settings.turns script settings.steps first because made
    pub printed : report.text.items ≡ comments (first ∷ because)
    pub status : report.status ≡ 1

  pub record IsWholeClash (text : List ℕ) : Type 0 where
    pub first : List ℕ
    pub whole : IsWholeRun tree terms settings.turns script settings.steps first []
    pub clash : ClashOfRun
    pub ends : EndsSo tree settings.turns script greatest_shown (run_asked tree settings script) clash
    pub end : shown.End
    pub answered : IsReturned (run_asked tree settings script).end end
    pub printed : IsClashText text (names_in tree) end first (assignments_in clash) (count_in clash) report.text.items
    pub status : report.status ≡ run_status (is_fault (run_asked tree settings script).end) []

module _ (text script_text : List ℕ) (conditions : List Condition) (settings : RunSettings) (report : Report) where
  pub record AreChoicesReported : Type 0 where
    pub tree : Spec
    pub accepted : IsAccepted text tree
    pub script : Script
    pub spelled : IsScript script_text script
    pub terms : List Term
    pub are_terms : AreAskedOf tree (texts_of conditions) terms
    -- the comments at its head, and up to how many steps the run is looked at
    pub first : List ℕ
    pub because : List (List ℕ)
    pub limit : ℕ
    pub is_fault : Bool
    pub is_end : IsAskedEnd tree terms settings.turns script settings.steps first because limit is_fault
    pub steps : List (List Choice)
    pub choices : AreChoices tree settings.turns script limit steps
    pub asked : List (List Asking)
    pub are_asked : AreAsked tree settings.turns script limit asked
    pub again : MakesTheRun (specification_of tree) settings.turns script limit (lines_forward steps)
    pub printed :
        let made = lines_forward steps in
        IsChoicesText text (names_in tree) first because asked made (unmet_lines script_text made) report.text.items
    pub says : IsScript report.text.items (exactly (lines_forward steps)) ⊎ HasNoText first (lines_forward steps)
    pub status : report.status ≡ run_status is_fault (unmet_lines script_text (lines_forward steps))

  pub record IsClashReported : Type 0 where
    pub tree : Spec
    pub accepted : IsAccepted text tree
    pub script : Script
    pub spelled : IsScript script_text script
    pub terms : List Term
    pub are_terms : AreAskedOf tree (texts_of conditions) terms
    pub reported : IsBrokenClash tree terms script settings report ⊎ IsWholeClash tree terms script settings report text

-- ---- without a report

module _ (text script_text : List ℕ) (conditions : List Condition) (settings : RunSettings) where
  pub record AreTextsTaken : Type 0 where
    pub tree : Spec
    pub accepted : IsAccepted text tree
    pub script : Script
    pub spelled : IsScript script_text script
    pub terms : List Term
    pub are_terms : AreAskedOf tree (texts_of conditions) terms

  abbrev pub ExplainsRun : Fault → Type 0
  ExplainsRun (fault.Text refused) =
      IsRunRefused text settings.spec.now script_text settings refused ⊎ ((tree : Spec) × IsAccepted text tree × IsOneRefused tree conditions refused)
  ExplainsRun fault.Memory = ⊤
  ExplainsRun fault.Unconfirmed = AreTextsTaken
  ExplainsRun (fault.Graph name) = ⊥
  ExplainsRun (fault.QuietScript name) = ⊥
  ExplainsRun (fault.Name name) = ⊥
