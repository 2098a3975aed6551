-- Definition. The script of a run that is drawn, by the bytes of a specification's text and of
-- conditions.
--     IsAskedOfRun tree always   the specification of the text, and a condition that is true just
--                                when each of those is that are given
--     IsDrawnScript script       the script is that of the run that is drawn from the seed: with the
--                                settings' turns and steps, up to a state in which a condition isn't
--                                true
--     IsAnyTextRefused           the specification's text is refused, or a condition's
--     IsScriptDrawn script       it is such a script; or a text is refused, and it has no bytes
--     IsUnwrittenDraw            the lines of the run that is drawn are too long for a script, or it
--                                comes to a step that all rounds of drawing don't settle
--     ExplainsUndrawn            why there is no script: memory ran out, or so
use Rattle.std.specs.Prelude.{◌≡◌, ◌⊎◌, ℕ, List, [], Option, ⊤}
use Rattle.asm_syntax.specs.SourceTree.{Spec, Term}
use Rattle.asm_meaning.specs.Declarations.{specification_of}
use Rattle.asm_explore.specs.Conditions.{condition_holds}
use Rattle.asm_random.specs.DrawnTexts.{IsDrawnText, IsLongDraw, IsUnsettled}
use Rattle.asm_run.specs.Headline.{IsAccepted}
use Rattle.asm_explore_report.specs.AskedConditions.{AreAllAsked}
use Rattle.asm_explore_report.specs.Refusals.{IsSpecificationRefused}
use Rattle.asm_explore_texts.specs.Conditions.{texts_of}
use Rattle.asm_explore_texts.specs.RefusedTexts.{IsOneRefused}
use Rattle.asm_explore_texts.specs.declared.conditions.Condition.{Condition}
use Rattle.asm_explore_words.specs.declared.fault.RefusedText.{RefusedText}
use Rattle.asm_explore_words.specs.declared.settings.RunSettings.{RunSettings}
use Rattle.asm_explore_random.specs.declared.drawn_script.Undrawn.{Undrawn}
use Rattle.asm_explore_random.specs.declared.drawn_script.Undrawn.TheVariants as undrawn

abbrev pub IsUnwrittenDraw : Spec → (always : Option Term) → (turns seed steps : ℕ) → Type 0
IsUnwrittenDraw tree always turns seed steps =
    IsLongDraw (specification_of tree) turns (condition_holds tree always) seed steps ⊎ IsUnsettled (specification_of tree) turns (condition_holds tree always) seed steps

module _ (text : List ℕ) (conditions : List Condition) where
  pub record IsAskedOfRun (tree : Spec) (always : Option Term) : Type 0 where
    pub accepted : IsAccepted text tree
    pub terms : List Term
    pub asked : AreAllAsked (texts_of conditions) tree always terms

  module _ (settings : RunSettings) (seed : ℕ) where
    pub record IsDrawnScript (script : List ℕ) : Type 0 where
      pub tree : Spec
      pub always : Option Term
      pub is_asked : IsAskedOfRun tree always
      pub drawn : IsDrawnText (specification_of tree) settings.turns (condition_holds tree always) seed settings.steps script

    abbrev pub IsAnyTextRefused : RefusedText → Type 0
    IsAnyTextRefused refused = IsSpecificationRefused text settings.spec.now refused ⊎ ((tree : Spec) × IsAccepted text tree × IsOneRefused tree conditions refused)

    abbrev pub IsScriptDrawn : List ℕ → Type 0
    IsScriptDrawn script = IsDrawnScript script ⊎ ((script ≡ []) × ((refused : RefusedText) × IsAnyTextRefused refused))

    -- ---- without a script

    abbrev pub ExplainsUndrawn : Undrawn → Type 0
    ExplainsUndrawn undrawn.Memory = ⊤
    ExplainsUndrawn undrawn.Unwritten =
        (tree : Spec) × (always : Option Term) × IsAskedOfRun tree always × IsUnwrittenDraw tree always settings.turns seed settings.steps
