-- Free. Words that are taken, and have no report.
--     kept_alike      known bytes stay as they are
--     why_none        a fault of a report says why
use Rattle.std.proofs.Common.{Bool, ℕ, List, Option, None, Some, inl, inr, refl, subst, sym}
use Rattle.std.specs.Prelude.{⊤}
use Rattle.std.specs.Io.KnownBytes.{Keeps}
use Rattle.clap.specs.Walk.{Text}
use Rattle.asm_explore_all.specs.MadeFiles.{MadeFile}
use Rattle.asm_explore_words.specs.declared.fault.Fault.{Fault}
use Rattle.asm_explore_words.specs.declared.fault.Fault.TheVariants as cause
use Rattle.asm_explore_words.specs.declared.fault.Source.{Source}
use Rattle.asm_explore_words.specs.declared.settings.RunSettings.{RunSettings}
use Rattle.asm_explore_words.specs.declared.settings.Task.{Task}
use Rattle.asm_explore_words.specs.declared.settings.Task.TheVariants as task
use Rattle.asm_explore_texts.specs.RunNumbers.{with_numbers}
use Rattle.asm_explore_texts.specs.declared.conditions.Condition.{Condition}
use Rattle.asm_explore_tool.specs.Faults.{IsToldOf, IsUnread}
use Rattle.asm_explore_tool.specs.GivenTexts.{IsUndrawn}
use Rattle.asm_explore_tool.specs.Outputs.{ExplainsTask, IsUnwritten, IsWithoutReport}
use Rattle.asm_explore_tool.specs.declared.no_answer.NoAnswer.{NoAnswer}
use Rattle.asm_explore_tool.specs.declared.no_answer.NoAnswer.TheVariants.{Words, NotText, Text as Refused, Memory, File, Write, Graph, QuietScript, Name, Draw, Unconfirmed}

pub kept_alike : (known : Option (List ℕ)) → Keeps known known
kept_alike None = tt
kept_alike (Some bytes) = refl

-- it is no fault of words or of the output
abbrev IsOfReport : NoAnswer → Type 0
IsOfReport (Words error) = ⊥
IsOfReport NotText = ⊥
IsOfReport Write = ⊥
IsOfReport fault = ⊤

of_cause : (text : List ℕ) (why : Fault) (fault : NoAnswer) → IsToldOf text why fault → IsOfReport fault
of_cause text (cause.Text refused) fault is = subst IsOfReport (sym is.2) tt
of_cause text cause.Memory fault is = subst IsOfReport (sym is) tt
of_cause text (cause.Graph name) fault is = subst IsOfReport (sym is) tt
of_cause text (cause.QuietScript name) fault is = subst IsOfReport (sym is) tt
of_cause text (cause.Name name) fault is = subst IsOfReport (sym is) tt
of_cause text cause.Unconfirmed fault is = subst IsOfReport (sym is) tt

of_unread : (Names : Source → Type 0) (fault : NoAnswer) → IsUnread Names fault → IsOfReport fault
of_unread Names (Words error) is = is.1
of_unread Names NotText is = is.1
of_unread Names Write is = is.1
of_unread Names (Refused refused specification) is = tt
of_unread Names Memory is = tt
of_unread Names (File source) is = tt
of_unread Names (Graph name) is = tt
of_unread Names (QuietScript name) is = tt
of_unread Names (Name name) is = tt
of_unread Names (Draw seed) is = tt
of_unread Names Unconfirmed is = tt

of_draw : (settings : RunSettings) (text : List ℕ) (conditions : List Condition) (fault : NoAnswer) → IsUndrawn settings text conditions fault → IsOfReport fault
of_draw settings text conditions (Words error) is = is
of_draw settings text conditions NotText is = is
of_draw settings text conditions Write is = is
of_draw settings text conditions (Refused refused specification) is = tt
of_draw settings text conditions Memory is = tt
of_draw settings text conditions (File source) is = tt
of_draw settings text conditions (Graph name) is = tt
of_draw settings text conditions (QuietScript name) is = tt
of_draw settings text conditions (Name name) is = tt
of_draw settings text conditions (Draw seed) is = tt
of_draw settings text conditions Unconfirmed is = tt

module _ (contents : Text → Option (List ℕ)) (input : Option (List ℕ)) (before after : Option (List MadeFile)) where
  of_task : (asked : Task) (fault : NoAnswer) → ExplainsTask contents input before after asked fault → IsOfReport fault
  of_task (task.All settings) fault (inl unread) = of_unread _ fault unread.0
  of_task (task.All settings) fault (inr is) = of_cause is.text is.cause fault is.is
  of_task (task.Random settings) fault (none, inl unread) = of_unread _ fault unread
  of_task (task.Random settings) fault (none, inr is) = of_cause is.text is.cause fault is.is
  of_task (task.Choices question) fault (none, inl unread) = of_unread _ fault unread
  of_task (task.Choices question) fault (none, inr (inl is)) = of_cause is.text is.cause fault is.is
  of_task (task.Choices question) fault (none, inr (inr is)) = of_draw (with_numbers question.run is.script_given) is.text is.conditions fault is.undrawn
  of_task (task.Clash question) fault (none, inl unread) = of_unread _ fault unread
  of_task (task.Clash question) fault (none, inr (inl is)) = of_cause is.text is.cause fault is.is
  of_task (task.Clash question) fault (none, inr (inr is)) = of_draw (with_numbers question.run is.script_given) is.text is.conditions fault is.undrawn
  of_task (task.Show settings) fault (none, inl unread) = of_unread _ fault unread
  of_task (task.Show settings) fault (none, inr (inl is)) = of_cause is.text is.cause fault is.is
  of_task (task.Show settings) fault (none, inr (inr is)) = of_draw (with_numbers settings.run is.script_given) is.text is.conditions fault is.undrawn

  module _ (old new : Option (List ℕ)) (has_failed : Bool) (words : List Text) where
    pub why_none : (fault : NoAnswer) → IsWithoutReport old new has_failed contents input before after words fault
        → IsUnwritten old new has_failed contents input before after words fault
    why_none (Words error) none = absurd (of_task none.task (Words error) none.explained)
    why_none NotText none = absurd (of_task none.task NotText none.explained)
    why_none Write none = absurd (of_task none.task Write none.explained)
    why_none (Refused refused specification) none = none
    why_none Memory none = none
    why_none (File source) none = none
    why_none (Graph name) none = none
    why_none (QuietScript name) none = none
    why_none (Name name) none = none
    why_none (Draw seed) none = none
    why_none Unconfirmed none = none
