-- Definition. What the program writes for words.
--     AppendsUpTo old new text    known bytes grow by a front of the text, which may be all of it
--     IsReportOfAll, IsReportOfRandom, IsReportOfRun, IsReportOfShow
--                                 the report for settings of `all`, of `random`, of one run and of
--                                 `show`, of the texts that are read for them; the files that are
--                                 known to be made grow by those that `all` makes
--     IsReportOf                  the report for a command with its settings; the other commands
--                                 make no file
--     IsOutput                    the report for the words: its text is written, and its status is
--                                 this one; the files that are known to be made grow by its files
--     IsHelp                      words are refused, and ask for help or for the version: some text
--                                 is written
--     IsAnswer                    one of the two; help makes no file
--     IsFaultOfAll, IsFaultOfRandom, IsFaultOfRun, IsFaultOfShow
--                                 the fault for which there is no report for settings of `all`, of
--                                 `random`, of one run and of `show`, of the texts that are read for
--                                 them; and what is made of the files of `all`
--     ExplainsRunTask, ExplainsShowTask
--                                 a text can't be had; or it is the fault of a run, or of its drawing
--     ExplainsTask                a text can't be had, and no file is made; or it is such a fault. The
--                                 other commands than `all` make no file
--     IsWithoutReport             words that are taken have no report, by this fault: nothing is
--                                 written
--     IsUnwritten                 the fault for which they have none; or the output failed, and a
--                                 front of the report is written, whose files are made
--     AreRefused                  why words are refused, and what is written
--     IsExplained                 one of the two says why the status is what it is; for refused words
--                                 no file is made
use Rattle.std.specs.Prelude.{◌≡◌, ◌⊎◌, ℕ, Bool, List, [], Option, IsTrue, take}
use Rattle.std.specs.Io.KnownBytes.{Appends, Keeps}
use Rattle.clap.specs.Kinds.{IsAmong, Kinds}
use Rattle.clap.specs.Values.{kind_of}
use Rattle.clap.specs.Walk.{Text}
use Rattle.asm_explore_tool.specs.Faults.{IsToldOf, IsUnread, status_of}
use Rattle.asm_explore_tool.specs.GivenTexts.{AreGiven, AreRandomGiven, IsGivenRun, IsRead, IsReadForQuestion, IsText, IsUndrawnRun}
use Rattle.asm_explore_tool.specs.declared.no_answer.NoAnswer.{NoAnswer}
use Rattle.asm_explore_tool.specs.declared.no_answer.NoAnswer.TheVariants as no_answer
use Rattle.asm_explore_random.specs.RandomReport.{ExplainsRandom, IsRandomReported}
use Rattle.asm_explore_all.specs.AllReport.{ExplainsAll, IsReportedBy}
use Rattle.asm_explore_all.specs.MadeFiles.{MadeFile, Makes}
use Rattle.asm_explore_run.specs.RunReport.{AreChoicesReported, ExplainsRun, IsClashReported}
use Rattle.asm_explore_run.specs.ShowReport.{ExplainsShow, IsShown}
use Rattle.asm_explore_words.specs.WordsSaid.{AreSaidBehind, AskForHelp, task_refusals}
use Rattle.asm_explore_texts.specs.declared.conditions.Condition.{Condition}
use Rattle.asm_explore_texts.specs.declared.conditions.Conditions.{Conditions}
use Rattle.asm_explore_report.specs.declared.report.Report.{Report}
use Rattle.asm_explore_words.specs.declared.fault.Fault.{Fault}
use Rattle.asm_explore_words.specs.declared.settings.RandomSettings.{RandomSettings}
use Rattle.asm_explore_words.specs.declared.settings.RunQuestion.{RunQuestion}
use Rattle.asm_explore_words.specs.declared.settings.RunSettings.{RunSettings}
use Rattle.asm_explore_words.specs.declared.settings.Settings.{Settings}
use Rattle.asm_explore_words.specs.declared.settings.ShowSettings.{ShowSettings}
use Rattle.asm_explore_words.specs.declared.settings.Task.{Task}
use Rattle.asm_explore_words.specs.declared.settings.Task.TheVariants.{All, Random, Choices, Clash, Show}

abbrev pub AppendsUpTo : (old new : Option (List ℕ)) → List ℕ → Type 0
AppendsUpTo old new text = (n : ℕ) × Appends old new (take n text)

-- ---- what words ask for

module _ (contents : Text → Option (List ℕ)) (input : Option (List ℕ)) where
  pub record IsReportOfAll (before after : Option (List MadeFile)) (settings : Settings) (report : Report) : Type 0 where
    pub text : List ℕ
    pub is_text : IsText contents input settings.spec.now text
    pub conditions : Conditions
    pub given : AreGiven contents settings conditions
    pub reported : IsReportedBy text conditions settings before after report

  pub record IsReportOfRandom (settings : RandomSettings) (report : Report) : Type 0 where
    pub text : List ℕ
    pub is_text : IsText contents input settings.spec.now text
    pub conditions : Conditions
    pub given : AreRandomGiven contents settings conditions
    pub reported : IsRandomReported text conditions settings report

  pub record IsReportOfRun (AreReported : (text script_text : List ℕ) → List Condition → RunSettings → Report → Type 0) (question : RunQuestion) (report : Report) : Type 0 where
    pub text : List ℕ
    pub conditions : List Condition
    pub run : RunSettings
    pub script_text : List ℕ
    pub given : IsGivenRun contents input question.run question.always.items question.always_files.items text conditions run script_text
    pub reported : AreReported text script_text conditions run report

  pub record IsReportOfShow (settings : ShowSettings) (report : Report) : Type 0 where
    pub text : List ℕ
    pub conditions : List Condition
    pub run : RunSettings
    pub script_text : List ℕ
    pub given : IsGivenRun contents input settings.run settings.always.items settings.always_files.items text conditions run script_text
    pub reported : IsShown text script_text conditions run settings report

  -- of the files that are known to be made, before and after
  abbrev pub IsReportOf : (before after : Option (List MadeFile)) → Task → Report → Type 0
  IsReportOf before after (All settings) report = IsReportOfAll before after settings report
  IsReportOf before after (Random settings) report = Makes before after [] × IsReportOfRandom settings report
  IsReportOf before after (Choices question) report = Makes before after [] × IsReportOfRun AreChoicesReported question report
  IsReportOf before after (Clash question) report = Makes before after [] × IsReportOfRun IsClashReported question report
  IsReportOf before after (Show settings) report = Makes before after [] × IsReportOfShow settings report

  -- ---- without a report

  pub record IsFaultOfAll (before after : Option (List MadeFile)) (settings : Settings) (fault : NoAnswer) : Type 0 where
    pub text : List ℕ
    pub is_text : IsText contents input settings.spec.now text
    pub conditions : Conditions
    pub given : AreGiven contents settings conditions
    pub cause : Fault
    pub is : IsToldOf text cause fault
    pub explained : ExplainsAll text conditions settings before after cause

  pub record IsFaultOfRandom (settings : RandomSettings) (fault : NoAnswer) : Type 0 where
    pub text : List ℕ
    pub is_text : IsText contents input settings.spec.now text
    pub conditions : Conditions
    pub given : AreRandomGiven contents settings conditions
    pub cause : Fault
    pub is : IsToldOf text cause fault
    pub explained : ExplainsRandom text conditions settings cause

  pub record IsFaultOfRun (question : RunQuestion) (fault : NoAnswer) : Type 0 where
    pub text : List ℕ
    pub conditions : List Condition
    pub run : RunSettings
    pub script_text : List ℕ
    pub given : IsGivenRun contents input question.run question.always.items question.always_files.items text conditions run script_text
    pub cause : Fault
    pub is : IsToldOf text cause fault
    pub explained : ExplainsRun text script_text conditions run cause

  pub record IsFaultOfShow (settings : ShowSettings) (fault : NoAnswer) : Type 0 where
    pub text : List ℕ
    pub conditions : List Condition
    pub run : RunSettings
    pub script_text : List ℕ
    pub given : IsGivenRun contents input settings.run settings.always.items settings.always_files.items text conditions run script_text
    pub cause : Fault
    pub is : IsToldOf text cause fault
    pub explained : ExplainsShow text script_text conditions run settings cause

  abbrev pub ExplainsRunTask : RunQuestion → NoAnswer → Type 0
  ExplainsRunTask question fault =
      IsUnread (IsReadForQuestion question.run question.always_files.items) fault
      ⊎ (IsFaultOfRun question fault ⊎ IsUndrawnRun contents input question.run question.always.items question.always_files.items fault)

  abbrev pub ExplainsShowTask : ShowSettings → NoAnswer → Type 0
  ExplainsShowTask settings fault =
      IsUnread (IsReadForQuestion settings.run settings.always_files.items) fault
      ⊎ (IsFaultOfShow settings fault ⊎ IsUndrawnRun contents input settings.run settings.always.items settings.always_files.items fault)

  abbrev pub ExplainsTask : (before after : Option (List MadeFile)) → Task → NoAnswer → Type 0
  ExplainsTask before after (All settings) fault =
      (IsUnread (IsRead settings.spec settings.always_files.items) fault × Makes before after []) ⊎ IsFaultOfAll before after settings fault
  ExplainsTask before after (Random settings) fault =
      Makes before after [] × (IsUnread (IsRead settings.spec settings.always_files.items) fault ⊎ IsFaultOfRandom settings fault)
  ExplainsTask before after (Choices question) fault = Makes before after [] × ExplainsRunTask question fault
  ExplainsTask before after (Clash question) fault = Makes before after [] × ExplainsRunTask question fault
  ExplainsTask before after (Show settings) fault = Makes before after [] × ExplainsShowTask settings fault

-- some text is written, which the library that reads the words has for them
abbrev pub IsHelp : (IsWritten : List ℕ → Type 0) → Kinds → Type 0
IsHelp IsWritten kinds = AskForHelp kinds × ((text : List ℕ) × IsWritten text)

module _ (contents : Text → Option (List ℕ)) (input : Option (List ℕ)) (IsWritten : List ℕ → Type 0) (before after : Option (List MadeFile)) (words : List Text) (status : ℕ) where
  pub record IsOutput : Type 0 where
    pub taken : task_refusals words ≡ []
    pub task : Task
    pub said : AreSaidBehind words task
    pub report : Report
    pub reported : IsReportOf contents input before after task report
    pub status_is : status ≡ report.status
    pub written : IsWritten report.text.items

  abbrev pub IsAnswer : Type 0
  IsAnswer = IsOutput ⊎ ((status ≡ 0) × Makes before after [] × IsHelp IsWritten (task_refusals words))

-- ---- why it isn't written

module _ (old new : Option (List ℕ)) (has_failed : Bool) where
  abbrev pub AreRefused : Kinds → NoAnswer → Type 0
  AreRefused kinds (no_answer.Words error) = Keeps old new × IsAmong (kind_of error) kinds
  AreRefused kinds no_answer.Memory = Keeps old new
  AreRefused kinds no_answer.Write = IsTrue has_failed × IsHelp (AppendsUpTo old new) kinds
  AreRefused kinds fault = ⊥

  module _ (contents : Text → Option (List ℕ)) (input : Option (List ℕ)) (before after : Option (List MadeFile)) (words : List Text) where
    pub record IsWithoutReport (fault : NoAnswer) : Type 0 where
      pub task : Task
      pub said : AreSaidBehind words task
      pub explained : ExplainsTask contents input before after task fault
      pub kept : Keeps old new

    abbrev pub IsUnwritten : NoAnswer → Type 0
    IsUnwritten (no_answer.Words error) = ⊥
    IsUnwritten no_answer.NotText = ⊥
    IsUnwritten no_answer.Write = IsTrue has_failed × ((status : ℕ) × IsOutput contents input (AppendsUpTo old new) before after words status)
    IsUnwritten fault = IsWithoutReport fault

    abbrev pub Explains : NoAnswer → Type 0
    Explains fault = ((task_refusals words ≡ []) × IsUnwritten fault) ⊎ (Makes before after [] × AreRefused (task_refusals words) fault)

    pub record IsExplained (status : ℕ) : Type 0 where
      pub fault : NoAnswer
      pub is_status : status_of fault ≡ status
      pub explains : Explains fault
