-- Free. Scripts that can't be drawn.
--     explains          why there is none, by the specification and the condition that are asked
--     memory_explains   that memory ran out
--     refused_text      a text that is refused, unless memory ran out
use Rattle.std.proofs.Common.{◌≡◌, ◌≢◌, ℕ, List, Option, refl, subst, sym}
use Rattle.asm_syntax.specs.SourceTree.{Spec, Term}
use Rattle.asm_explore_texts.specs.RefusedTexts.{ExplainsText}
use Rattle.asm_explore_texts.specs.declared.conditions.Condition.{Condition}
use Rattle.asm_explore_words.specs.declared.fault.Fault.{Fault}
use Rattle.asm_explore_words.specs.declared.fault.Fault.TheVariants as cause
use Rattle.asm_explore_words.specs.declared.fault.RefusedText.{RefusedText}
use Rattle.asm_explore_words.specs.declared.settings.RunSettings.{RunSettings}
use Rattle.asm_explore_random.specs.DrawnScripts.{ExplainsUndrawn, IsAskedOfRun, IsUnwrittenDraw}
use Rattle.asm_explore_random.specs.declared.drawn_script.Undrawn.{Undrawn}
use Rattle.asm_explore_random.specs.declared.drawn_script.Undrawn.TheVariants.{Memory, Unwritten}

module _ (text : List ℕ) (conditions : List Condition) (settings : RunSettings) (seed : ℕ) where
  pub explains : (tree : Spec) (always : Option Term) → IsAskedOfRun text conditions tree always → (why : Undrawn)
      → (why ≡ Unwritten → IsUnwrittenDraw tree always settings.turns seed settings.steps) → ExplainsUndrawn text conditions settings seed why
  explains tree always asked Memory h = tt
  explains tree always asked Unwritten h = (tree, always, asked, h refl)

  pub memory_explains : (why : Undrawn) → why ≡ Memory → ExplainsUndrawn text conditions settings seed why
  memory_explains why is = subst (ExplainsUndrawn text conditions settings seed) (sym is) tt

pub refused_text : (Refused : RefusedText → Type 0) (fault : Fault) → ExplainsText Refused fault → fault ≢ cause.Memory → (refused : RefusedText) × Refused refused
refused_text Refused (cause.Text refused) is not = (refused, is.0)
refused_text Refused cause.Memory is not = absurd (not refl)
refused_text Refused cause.Unconfirmed is not = absurd is.1
refused_text Refused (cause.Graph name) is not = absurd is.1
refused_text Refused (cause.QuietScript name) is not = absurd is.1
refused_text Refused (cause.Name name) is not = absurd is.1
