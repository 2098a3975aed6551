-- Definition. Texts of a specification that are refused, and what is asked of it.
--     IsSpecificationError text e at     what is wrong with the text of a specification, and where
--     IsSpecificationRefused text name r    the refusal names the text of the file of this name, and
--                                        what is wrong with it
--     IsQuestionRefused text name cs r   so it names the specification's text; or this has no fault,
--                                        and it names one of the conditions
--     IsRunRefused text name script_text settings r
--                                        so it names the specification's text; or this has no
--                                        fault, and it names the script's
use Rattle.std.specs.Prelude.{◌≡◌, ◌⊎◌, ℕ, List, Option, Some}
use Rattle.std.specs.Borrow.{Bor}
use Rattle.asm_syntax.specs.SourceTree.{Spec}
use Rattle.asm_reader.specs.Refusals.{IsRefusal, refusal_offset}
use Rattle.asm_run.specs.Headline.{IsAccepted, IsFaulty}
use Rattle.asm_explore_words.specs.declared.fault.RefusedText.{RefusedText}
use Rattle.asm_explore_words.specs.declared.fault.Source.TheVariants as source
use Rattle.asm_explore_words.specs.declared.fault.TextError.{TextError}
use Rattle.asm_explore_words.specs.declared.fault.TextError.TheVariants as error
use Rattle.asm_explore_words.specs.declared.settings.RunSettings.{RunSettings}
use Rattle.asm_explore_texts.specs.RefusedTexts.{IsAnyRefused, IsScriptRefused}
use Rattle.asm_explore_texts.specs.declared.conditions.Conditions.{Conditions}

abbrev pub IsSpecificationError : (text : List ℕ) → TextError → (at : Option ℕ) → Type 0
IsSpecificationError text (error.Read e) at = IsRefusal text e × (at ≡ refusal_offset e)
IsSpecificationError text (error.Check e) at = IsFaulty text e × (at ≡ Some e.at)
IsSpecificationError text (error.Script e) at = ⊥

module _ (text name : List ℕ) where
  pub record IsSpecificationRefused (r : RefusedText) : Type 0 where
    pub file : Bor (List ℕ)
    pub named : file.now ≡ name
    pub source : r.source ≡ source.Specification file
    pub has : r.text.items ≡ text
    pub refused : IsSpecificationError text r.error r.at

  abbrev pub IsQuestionRefused : Conditions → RefusedText → Type 0
  IsQuestionRefused conditions r = IsSpecificationRefused r ⊎ ((s : Spec) × IsAccepted text s × IsAnyRefused s conditions r)

  abbrev pub IsRunRefused : (script_text : List ℕ) → RunSettings → RefusedText → Type 0
  IsRunRefused script_text settings r = IsSpecificationRefused r ⊎ ((s : Spec) × IsAccepted text s × IsScriptRefused script_text settings r)
