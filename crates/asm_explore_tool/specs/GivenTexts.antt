-- Definition. What is read for settings: the text of the specification, and those of the
-- conditions.
--     file_of name                             the file of this name, except `-`, which is standard
--                                              input
--     IsText contents input settings text      the text is that of the specification's file, or of
--                                              the input
--     AreRunTexts contents input settings text script
--                                              the texts of the specification's file and of the
--                                              script's (one may be the input); a script that isn't
--                                              named has no bytes
--     IsScriptOfRun settings text conditions given script
--                                              the script of the run that settings ask for: the one
--                                              that is given, or if its choices are drawn, that of
--                                              the run that is drawn
--     IsUndrawn settings text conditions fault     why there is none, if they are
--     IsGivenRun contents input settings words names text conditions run script
--                                              what is read for settings, with conditions by these
--                                              words and in these files: the text, the conditions,
--                                              the run, whose numbers may be those that the given
--                                              script says, and its script
--     IsUndrawnRun contents input settings words names fault
--                                              why its script can't be had, if it is to be drawn
--     IsAmongFiles names source                the source is one of these files, of a condition
--     IsRead, IsReadForRun                     the source is one of those that are read for settings
--     IsReadForQuestion                        of a run: or one of the files of its conditions
--     AreFronts contents names texts           the texts are those of the files with these names
--     word_sources, file_sources               the sources of so many conditions that words give, and
--                                              of those in files with these names
--     AreAlwaysGiven contents words names conditions
--                                              the conditions are the words, and after them those of
--                                              the files with these names; and so their sources
--     AreGiven contents settings conditions    the conditions are those that the settings give, and
--                                              those of the files that they name; and so their sources
--     AreRandomGiven contents settings conditions
--                                              the same of the settings of `random`
use Rattle.std.specs.Prelude.{◌≡◌, ◌⊎◌, ℕ, zero, suc, List, [], ◌∷◌, ◌++◌, length, map, slice_get, Option, Some, None, IfSome, cond, option_map, codes, ⊤}
use Rattle.std.specs.Borrow.{Bor}
use Rattle.std.specs.Str.{bytes_eq}
use Rattle.clap.specs.Walk.{Text, texts}
use Rattle.asm_files.specs.Input.{IsFront, bytes_of}
use Rattle.asm_explore_texts.specs.Conditions.{text_of, texts_of}
use Rattle.asm_explore_texts.specs.RunNumbers.{with_numbers}
use Rattle.asm_explore_texts.specs.declared.conditions.Condition.{Condition}
use Rattle.asm_explore_texts.specs.declared.conditions.Conditions.{Conditions}
use Rattle.asm_explore_random.specs.DrawnScripts.{ExplainsUndrawn, IsScriptDrawn}
use Rattle.asm_explore_random.specs.declared.drawn_script.Undrawn.TheVariants.{Unwritten}
use Rattle.asm_explore_words.specs.declared.fault.Source.{Source}
use Rattle.asm_explore_words.specs.declared.fault.Source.TheVariants as source
use Rattle.asm_explore_words.specs.declared.settings.RandomSettings.{RandomSettings}
use Rattle.asm_explore_words.specs.declared.settings.RunSettings.{RunSettings}
use Rattle.asm_explore_words.specs.declared.settings.Settings.{Settings}
use Rattle.asm_explore_tool.specs.declared.no_answer.NoAnswer.{NoAnswer}
use Rattle.asm_explore_tool.specs.declared.no_answer.NoAnswer.TheVariants.{Memory, Draw}

-- reading goes no further: what is of this length is too long
abbrev pub max_bytes_read : ℕ
max_bytes_read = 1_048_577

abbrev pub file_of : Text → Option Text
file_of name = cond (bytes_eq name (codes "-")) None (Some name)

-- ---- sources

abbrev pub IsAmongFiles : List (Bor Text) → Source → Type 0
IsAmongFiles names s = (k : ℕ) × (name : Bor Text) × (slice_get names k ≡ Some name) × (s ≡ source.AlwaysFile name)

-- for settings with this file of the specification, and these files of conditions
abbrev pub IsRead : (spec : Bor Text) → List (Bor Text) → Source → Type 0
IsRead spec names s = (s ≡ source.Specification spec) ⊎ IsAmongFiles names s

abbrev pub IsReadForRun : RunSettings → Source → Type 0
IsReadForRun settings s = (s ≡ source.Specification settings.spec) ⊎ ((name : Bor Text) × (settings.script ≡ Some name) × (s ≡ source.Script name))

abbrev pub IsReadForQuestion : RunSettings → (names : List (Bor Text)) → Source → Type 0
IsReadForQuestion settings names s = IsReadForRun settings s ⊎ IsAmongFiles names s

abbrev pub word_sources : (count : ℕ) → List Source
word_sources zero = []
word_sources (suc count) = word_sources count ++ source.Always (suc count) ∷ []

abbrev pub file_sources : List (Bor Text) → List Source
file_sources names = map (λ name. source.AlwaysFile name) names

abbrev pub sources_of : List Condition → List Source
sources_of cs = map (λ c. c.source) cs

-- ---- texts

module _ (contents : Text → Option (List ℕ)) where
  abbrev pub IsText : (input : Option (List ℕ)) → Text → List ℕ → Type 0
  IsText input name text = IsFront (bytes_of contents input (file_of name)) max_bytes_read text

  abbrev pub IsTextOfFile : Text → List ℕ → Type 0
  IsTextOfFile name text = IsFront (contents name) max_bytes_read text

  abbrev pub IsTextOfScript : (input : Option (List ℕ)) → Option Text → List ℕ → Type 0
  IsTextOfScript input None script = script ≡ []
  IsTextOfScript input (Some name) script = IsText input name script

  pub record AreRunTexts (input : Option (List ℕ)) (settings : RunSettings) (text script : List ℕ) : Type 0 where
    pub is_text : IsText input settings.spec.now text
    pub is_script : IsTextOfScript input (option_map (λ name. name.now) settings.script) script

  abbrev pub AreFronts : List Text → List (List ℕ) → Type 0
  AreFronts [] [] = ⊤
  AreFronts [] (text ∷ more) = ⊥
  AreFronts (name ∷ names) [] = ⊥
  AreFronts (name ∷ names) (text ∷ more) = IsTextOfFile name text × AreFronts names more

  pub record AreAlwaysGiven (words names : List (Bor Text)) (conditions : List Condition) : Type 0 where
    pub sources : sources_of conditions ≡ word_sources (length words) ++ file_sources names
    pub files : List (List ℕ)
    pub are_files : AreFronts (texts names) files
    pub all : texts_of conditions ≡ texts words ++ files

  pub record AreGiven (settings : Settings) (conditions : Conditions) : Type 0 where
    pub quiet_source : IfSome conditions.when_quiet (λ c. c.source ≡ source.DeadlockUnless)
    pub within_source : IfSome conditions.within (λ c. c.source ≡ source.Within)
    pub always : AreAlwaysGiven settings.always.items settings.always_files.items conditions.always.items
    pub when_quiet : text_of conditions.when_quiet ≡ option_map (λ text. text.now) settings.when_quiet
    pub within : text_of conditions.within ≡ option_map (λ text. text.now) settings.within

  pub record AreRandomGiven (settings : RandomSettings) (conditions : Conditions) : Type 0 where
    pub quiet_source : IfSome conditions.when_quiet (λ c. c.source ≡ source.DeadlockUnless)
    pub always : AreAlwaysGiven settings.always.items settings.always_files.items conditions.always.items
    pub when_quiet : text_of conditions.when_quiet ≡ option_map (λ text. text.now) settings.when_quiet
    pub within : conditions.within ≡ None

-- ---- a script that is drawn

module _ (settings : RunSettings) (text : List ℕ) (conditions : List Condition) where
  abbrev pub IsScriptBy : (draw : Option ℕ) → (given script : List ℕ) → Type 0
  IsScriptBy None given script = script ≡ given
  IsScriptBy (Some seed) given script = IsScriptDrawn text conditions settings seed script

  abbrev pub IsScriptOfRun : (given script : List ℕ) → Type 0
  IsScriptOfRun given script = IsScriptBy settings.draw given script

  abbrev pub IsUndrawn : NoAnswer → Type 0
  IsUndrawn Memory = ⊤
  IsUndrawn (Draw seed) = (settings.draw ≡ Some seed) × ExplainsUndrawn text conditions settings seed Unwritten
  IsUndrawn fault = ⊥

-- ---- a run

module _ (contents : Text → Option (List ℕ)) (input : Option (List ℕ)) (settings : RunSettings) (words names : List (Bor Text)) where
  pub record IsGivenRun (text : List ℕ) (conditions : List Condition) (run : RunSettings) (script : List ℕ) : Type 0 where
    pub script_given : List ℕ
    pub are_texts : AreRunTexts contents input settings text script_given
    pub given : AreAlwaysGiven contents words names conditions
    pub is_run : run ≡ with_numbers settings script_given
    pub is_script : IsScriptOfRun run text conditions script_given script

  pub record IsUndrawnRun (fault : NoAnswer) : Type 0 where
    pub text : List ℕ
    pub script_given : List ℕ
    pub are_texts : AreRunTexts contents input settings text script_given
    pub conditions : List Condition
    pub given : AreAlwaysGiven contents words names conditions
    pub undrawn : IsUndrawn (with_numbers settings script_given) text conditions fault
