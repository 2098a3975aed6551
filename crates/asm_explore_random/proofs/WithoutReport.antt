-- Free. Why there is no report.
--     of_asking       nothing can be asked
--     of_showing      the run that was found can't be shown
use Rattle.std.proofs.Common.{ℕ, List}
use Rattle.asm_explore_texts.specs.RefusedTexts.{ExplainsText}
use Rattle.asm_explore_texts.specs.declared.conditions.Conditions.{Conditions}
use Rattle.asm_explore_words.specs.UnshownRuns.{fault_of_unshown}
use Rattle.asm_explore_words.specs.declared.fault.Fault.{Fault}
use Rattle.asm_explore_words.specs.declared.fault.Fault.TheVariants as fault
use Rattle.asm_explore_words.specs.declared.fault.Unshown.{Unshown}
use Rattle.asm_explore_words.specs.declared.fault.Unshown.TheVariants as unshown
use Rattle.asm_explore_words.specs.declared.settings.RandomSettings.{RandomSettings}
use Rattle.asm_explore_report.specs.Refusals.{IsQuestionRefused}
use Rattle.asm_explore_random.specs.RandomReport.{AskedRuns, ExplainsRandom, IsRandomAsked}

module _ (text : List ℕ) (conditions : Conditions) (settings : RandomSettings) where
  pub of_asking : (why : Fault) → ExplainsText (IsQuestionRefused text settings.spec.now conditions) why → ExplainsRandom text conditions settings why
  of_asking (fault.Text refused) h = h.0
  of_asking fault.Memory h = tt
  of_asking fault.Unconfirmed h = absurd h.1
  of_asking (fault.Graph name) h = absurd h.1
  of_asking (fault.QuietScript name) h = absurd h.1
  of_asking (fault.Name name) h = absurd h.1

  pub of_showing : (why : Unshown) (asked : AskedRuns) → IsRandomAsked text conditions settings asked → ExplainsRandom text conditions settings (fault_of_unshown why)
  of_showing unshown.Memory asked is = tt
  of_showing unshown.Unconfirmed asked is = (asked, is)
