-- Free. Why there is no report.
--     of_specification    the specification's text is refused
--     of_script           the script's is
--     of_condition        one of the conditions is
--     of_showing          the run of both can't be shown
--     of_shown            nor in any form
use Rattle.std.proofs.Common.{ℕ, List, inl, inr}
use Rattle.asm_syntax.specs.SourceTree.{Spec}
use Rattle.asm_run.specs.Headline.{IsAccepted}
use Rattle.asm_explore_texts.specs.RefusedTexts.{ExplainsText, IsOneRefused, IsScriptRefused}
use Rattle.asm_explore_texts.specs.declared.conditions.Condition.{Condition}
use Rattle.asm_explore_words.specs.UnshownRuns.{fault_of_unshown}
use Rattle.asm_explore_words.specs.declared.fault.Fault.{Fault}
use Rattle.asm_explore_words.specs.declared.fault.Fault.TheVariants as fault
use Rattle.asm_explore_words.specs.declared.fault.Unshown.{Unshown}
use Rattle.asm_explore_words.specs.declared.fault.Unshown.TheVariants as unshown
use Rattle.asm_explore_words.specs.declared.settings.RunSettings.{RunSettings}
use Rattle.asm_explore_words.specs.declared.settings.ShowSettings.{ShowSettings}
use Rattle.asm_explore_report.specs.Refusals.{IsSpecificationRefused}
use Rattle.asm_explore_run.specs.RunReport.{AreTextsTaken, ExplainsRun}
use Rattle.asm_explore_run.specs.ShowReport.{ExplainsShow, IsWithoutRefusal}

module _ (text script_text : List ℕ) (conditions : List Condition) (settings : RunSettings) where
  pub of_specification : (why : Fault) → ExplainsText (IsSpecificationRefused text settings.spec.now) why → ExplainsRun text script_text conditions settings why
  of_specification (fault.Text refused) h = inl (inl h.0)
  of_specification fault.Memory h = tt
  of_specification fault.Unconfirmed h = absurd h.1
  of_specification (fault.Graph name) h = absurd h.1
  of_specification (fault.QuietScript name) h = absurd h.1
  of_specification (fault.Name name) h = absurd h.1

  module _ (tree : Spec) (accepted : IsAccepted text tree) where
    pub of_script : (why : Fault) → ExplainsText (IsScriptRefused script_text settings) why → ExplainsRun text script_text conditions settings why
    of_script (fault.Text refused) h = inl (inr (tree, accepted, h.0))
    of_script fault.Memory h = tt
    of_script fault.Unconfirmed h = absurd h.1
    of_script (fault.Graph name) h = absurd h.1
    of_script (fault.QuietScript name) h = absurd h.1
    of_script (fault.Name name) h = absurd h.1

    pub of_condition : (why : Fault) → ExplainsText (IsOneRefused tree conditions) why → ExplainsRun text script_text conditions settings why
    of_condition (fault.Text refused) h = inr (tree, accepted, h.0)
    of_condition fault.Memory h = tt
    of_condition fault.Unconfirmed h = absurd h.1
    of_condition (fault.Graph name) h = absurd h.1
    of_condition (fault.QuietScript name) h = absurd h.1
    of_condition (fault.Name name) h = absurd h.1

  pub of_showing : (why : Unshown) → AreTextsTaken text script_text conditions settings → ExplainsRun text script_text conditions settings (fault_of_unshown why)
  of_showing unshown.Memory is = tt
  of_showing unshown.Unconfirmed is = is

pub of_shown : (text script_text : List ℕ) (conditions : List Condition) (run : RunSettings) (settings : ShowSettings) (why : Unshown) → IsWithoutRefusal text script_text conditions run settings
    → ExplainsShow text script_text conditions run settings (fault_of_unshown why)
of_shown text script_text conditions run settings unshown.Memory is = tt
of_shown text script_text conditions run settings unshown.Unconfirmed is = is
