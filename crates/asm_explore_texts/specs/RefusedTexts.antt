-- Definition. Texts that are refused, and why there is no report.
--     script_name settings           the name of the script's file; `-` is standard input
--     IsScriptRefused text settings r    the refusal names this file and this text, what is wrong with
--                                    it as that of a script, and where the line begins that has the
--                                    fault, if one has
--     IsConditionRefused spec c r    it names a condition, its text, and what is wrong with it
--     IsOneRefused spec cs r         it names one of these
--     MayBeRefused spec c r          it names this one, if there is one
--     IsOtherRefused spec cs r       it names one of those that aren't to hold in each state
--     IsAnyRefused spec cs r         it names one of all that are given
--     refused_in fault               the refusal of a text, if that is why
--     ExplainsText Refused fault     a text is refused, and it is so; or memory ran out
use Rattle.std.specs.Prelude.{◌≡◌, ◌⊎◌, ℕ, List, Option, Some, None, IfSome, option_map, unwrap_or, slice_get, codes, ⊤}
use Rattle.std.specs.Borrow.{Bor}
use Rattle.asm_syntax.specs.SourceTree.{Spec}
use Rattle.asm_reader.specs.ScriptRefusals.{script_refusal_line}
use Rattle.asm_reader.specs.ScriptText.{IsScriptRefusal}
use Rattle.asm_reader.specs.declared.script_error.ScriptError.{ScriptError}
use Rattle.asm_explore_words.specs.declared.fault.Fault.{Fault}
use Rattle.asm_explore_words.specs.declared.fault.Fault.TheVariants as fault
use Rattle.asm_explore_words.specs.declared.fault.RefusedText.{RefusedText}
use Rattle.asm_explore_words.specs.declared.fault.Source.TheVariants as source
use Rattle.asm_explore_words.specs.declared.fault.TextError.TheVariants as error
use Rattle.asm_explore_words.specs.declared.settings.RunSettings.{RunSettings}
use Rattle.asm_explore_texts.specs.Conditions.{IsErrorAt}
use Rattle.asm_explore_texts.specs.Positions.{line_start}
use Rattle.asm_explore_texts.specs.declared.conditions.Condition.{Condition}
use Rattle.asm_explore_texts.specs.declared.conditions.Conditions.{Conditions}

abbrev pub script_name : RunSettings → List ℕ
script_name settings = unwrap_or (option_map (λ name. name.now) settings.script) (codes "-")

pub record IsScriptRefused (text : List ℕ) (settings : RunSettings) (r : RefusedText) : Type 0 where
  pub file : Bor (List ℕ)
  pub named : file.now ≡ script_name settings
  pub source : r.source ≡ source.Script file
  pub has : r.text.items ≡ text
  pub refusal : ScriptError
  pub error : r.error ≡ error.Script refusal
  pub refused : IsScriptRefusal text refusal
  pub at : r.at ≡ option_map (line_start text) (script_refusal_line refusal)

-- ---- conditions

pub record IsConditionRefused (spec : Spec) (c : Condition) (r : RefusedText) : Type 0 where
  pub source : r.source ≡ c.source
  pub has : r.text.items ≡ c.text.items
  pub refused : IsErrorAt spec c.text.items r.error r.at

abbrev pub IsOneRefused : Spec → List Condition → RefusedText → Type 0
IsOneRefused spec cs r = (k : ℕ) × (c : Condition) × (slice_get cs k ≡ Some c) × IsConditionRefused spec c r

abbrev pub MayBeRefused : Spec → Option Condition → RefusedText → Type 0
MayBeRefused spec None r = ⊥
MayBeRefused spec (Some c) r = IsConditionRefused spec c r

abbrev pub IsOtherRefused : Spec → Conditions → RefusedText → Type 0
IsOtherRefused spec cs r = MayBeRefused spec cs.within r ⊎ MayBeRefused spec cs.when_quiet r

abbrev pub IsAnyRefused : Spec → Conditions → RefusedText → Type 0
IsAnyRefused spec cs r = IsOneRefused spec cs.always.items r ⊎ IsOtherRefused spec cs r

-- ---- why there is no report

abbrev pub refused_in : Fault → Option RefusedText
refused_in (fault.Text r) = Some r
refused_in fault.Memory = None
refused_in fault.Unconfirmed = None
refused_in (fault.Graph name) = None
refused_in (fault.QuietScript name) = None
refused_in (fault.Name name) = None

abbrev IsOfText : Fault → Type 0
IsOfText (fault.Text r) = ⊤
IsOfText fault.Memory = ⊤
IsOfText fault.Unconfirmed = ⊥
IsOfText (fault.Graph name) = ⊥
IsOfText (fault.QuietScript name) = ⊥
IsOfText (fault.Name name) = ⊥

abbrev pub ExplainsText : (Refused : RefusedText → Type 0) → Fault → Type 0
ExplainsText Refused fault = IfSome (refused_in fault) Refused × IsOfText fault
