-- Definition. What is asked of random runs, by the bytes of a specification's text and of
-- conditions, and what is printed of them.
--     AskedRuns                  a specification, and what is looked for in random runs of it
--     IsRandomAsked              the specification of the text, and a question with the terms of the
--                                conditions
--     random_status finding      1 if a fault is found, and else 0
--     RandomTells                the words, and a line, are of the fault that is found, as
--                                `WordsTell` says it
--     random_line                what is found, in a line; these words describe the fault, if there
--                                is one
--     IsRandomReport             the first comment says what is found, the second why, if a condition
--                                isn't true, the others are the facts, and, if they are asked for, the
--                                table and the trace of the run that is found; and the script is that
--                                of this run
--     IsRandomReported           what is printed says what is found of the specification with this
--                                text
--     ExplainsRandom             why there is no report: a text is refused, memory ran out, or of what
--                                is asked the run that was found isn't confirmed
use Rattle.std.specs.Prelude.{◌≡◌, ℕ, List, [], ◌++◌, Option, codes, decimal, ⊤}
use Rattle.asm_syntax.specs.SourceTree.{Spec, Term}
use Rattle.asm_meaning.specs.Declarations.{specification_of}
use Rattle.asm_explore.specs.Conditions.{condition_holds}
use Rattle.asm_explore.specs.TooManyOutcomes.{IsCrowded}
use Rattle.asm_random.specs.RandomResults.{Claims, Counts}
use Rattle.asm_random.specs.declared.random_result.RandomResult.{RandomResult}
use Rattle.asm_random.specs.declared.random_result.RandomFinding.{RandomFinding}
use Rattle.asm_random.specs.declared.random_result.RandomFinding.TheVariants as random
use Rattle.asm_run.specs.Headline.{IsAccepted}
use Rattle.asm_explore_report.specs.AskedConditions.{AreAllAsked}
use Rattle.asm_explore_texts.specs.Conditions.{MayBeAskedOf, text_of, texts_of}
use Rattle.asm_explore_report.specs.Refusals.{IsQuestionRefused}
use Rattle.asm_explore_report.specs.FirstLine.{fault_line, first_state_line}
use Rattle.asm_explore_report.specs.FaultWords.{BadTells, IsBroken, unwritten_words}
use Rattle.asm_explore_texts.specs.declared.conditions.Conditions.{Conditions}
use Rattle.asm_explore_report.specs.declared.report.Report.{Report}
use Rattle.asm_explore_run.specs.PrintedRun.{IsPrintedRun}
use Rattle.asm_explore_words.specs.declared.fault.Fault.{Fault}
use Rattle.asm_explore_words.specs.declared.fault.Fault.TheVariants as fault
use Rattle.asm_explore_words.specs.declared.settings.RandomSettings.{RandomSettings}
use Rattle.asm_explore_random.specs.RandomFacts.{random_facts, shown_in}

pub record AskedRuns : Type 0 where
  pub spec : Spec
  pub always : Option Term
  pub when_quiet : Option Term
  pub turns : ℕ
  pub steps : ℕ
  pub runs : ℕ
  pub seed : ℕ
  pub outcomes : ℕ

pub record IsRandomAsked (text : List ℕ) (conditions : Conditions) (settings : RandomSettings) (asked : AskedRuns) : Type 0 where
  pub accepted : IsAccepted text asked.spec
  -- the terms of the conditions for each state
  pub terms : List Term
  pub always : AreAllAsked (texts_of conditions.always.items) asked.spec asked.always terms
  pub when_quiet : MayBeAskedOf asked.spec (text_of conditions.when_quiet) asked.when_quiet
  pub turns : asked.turns ≡ settings.turns
  pub steps : asked.steps ≡ settings.steps
  pub runs : asked.runs ≡ settings.runs
  pub seed : asked.seed ≡ settings.seed
  pub outcomes : asked.outcomes ≡ settings.outcomes

-- ---- what is printed

abbrev pub random_status : RandomFinding → ℕ
random_status random.Nothing = 0
random_status (random.Bad number bad) = 1
random_status random.WrongFirst = 1
random_status (random.Unwritten unwritten) = 1

abbrev pub RandomTells : Spec → List Term → (turns : ℕ) → RandomFinding → (words : List ℕ) → (lines : List (List ℕ)) → Type 0
RandomTells s terms turns random.Nothing words lines = lines ≡ []
RandomTells s terms turns (random.Bad number bad) words lines = BadTells s terms turns bad words lines
RandomTells s terms turns random.WrongFirst words lines = IsBroken s terms (specification_of s).initial words lines
RandomTells s terms turns (random.Unwritten unwritten) words lines = (words ≡ unwritten_words) × (lines ≡ [])

-- of `runs` runs that were made, of at most `steps` steps
abbrev pub random_line : (runs steps : ℕ) → RandomFinding → (words : List ℕ) → List ℕ
random_line runs steps random.Nothing words = codes "no fault in " ++ (decimal runs ++ (codes " runs of at most " ++ (decimal steps ++ codes " steps")))
random_line runs steps (random.Bad number bad) words = fault_line bad.fault bad.step words
random_line runs steps random.WrongFirst words = first_state_line words
random_line runs steps (random.Unwritten unwritten) words = fault_line unwritten.fault unwritten.step words

module _ (text : List ℕ) (conditions : Conditions) (settings : RandomSettings) where
  pub record IsRandomReport (asked : AskedRuns) (terms : List Term) (answer : RandomResult) (printed : List ℕ) : Type 0 where
    pub words : List ℕ
    pub because : List (List ℕ)
    pub tell : RandomTells asked.spec terms asked.turns answer.finding words because
    pub are_printed :
        IsPrintedRun text asked.spec asked.turns settings.table settings.trace (random_line answer.runs asked.steps answer.finding words) (because ++ random_facts conditions settings answer)
        (shown_in answer.finding) printed

  pub record IsRandomReported (report : Report) : Type 0 where
    pub asked : AskedRuns
    pub is_asked : IsRandomAsked text conditions settings asked
    pub answer : RandomResult
    -- what the finding says of the runs of the specification with this text
    pub claims :
        Claims (specification_of asked.spec) asked.turns (IsCrowded (specification_of asked.spec) asked.turns asked.outcomes) asked.steps
        (condition_holds asked.spec asked.always) (condition_holds asked.spec asked.when_quiet) answer.finding
    -- how many runs and steps were made, and that those before it have no fault
    pub counts :
        Counts (specification_of asked.spec) asked.turns (IsCrowded (specification_of asked.spec) asked.turns asked.outcomes) asked.steps
        (condition_holds asked.spec asked.always) (condition_holds asked.spec asked.when_quiet) asked.runs answer.runs answer.steps answer.finding
    pub status : report.status ≡ random_status answer.finding
    pub printed : IsRandomReport asked is_asked.terms answer report.text.items

  -- ---- without a report

  abbrev pub ExplainsRandom : Fault → Type 0
  ExplainsRandom (fault.Text refused) = IsQuestionRefused text settings.spec.now conditions refused
  ExplainsRandom fault.Memory = ⊤
  ExplainsRandom fault.Unconfirmed = (asked : AskedRuns) × IsRandomAsked text conditions settings asked
  ExplainsRandom (fault.Graph name) = ⊥
  ExplainsRandom (fault.QuietScript name) = ⊥
  ExplainsRandom (fault.Name name) = ⊥
