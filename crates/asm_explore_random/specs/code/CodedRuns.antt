-- Bridge to the code. What is asked of random runs, with terms of the code.
--     plain q          the same with terms of the source
--     IsAskedBy        the specification of the text, and a question with the terms of the
--                      conditions
use Rattle.std.specs.Prelude.{◌≡◌, ℕ, List}
use Rattle.asm_syntax.specs.code.Views.{spec_of, test_of}
use Rattle.asm_run.specs.Headline.{IsAccepted}
use Rattle.asm_explore_texts.specs.Conditions.{text_of, texts_of}
use Rattle.asm_explore_texts.specs.code.CodedConditions.{MayBeConditionOf}
use Rattle.asm_explore_report.specs.code.JoinedConditions.{AreAllJoined}
use Rattle.asm_explore_texts.specs.declared.conditions.Conditions.{Conditions}
use Rattle.asm_explore_words.specs.declared.settings.RandomSettings.{RandomSettings}
use Rattle.asm_explore_random.specs.RandomReport.{AskedRuns}
use Rattle.asm_explore_random.specs.declared.random_asked.CheckedRandomQuestion.{CheckedRandomQuestion}

abbrev pub plain : CheckedRandomQuestion → AskedRuns
plain q = record {
  spec = spec_of q.checked.spec;
  always = test_of q.question.always;
  when_quiet = test_of q.question.when_quiet;
  turns = q.question.turns;
  steps = q.question.steps;
  runs = q.question.runs;
  seed = q.question.seed;
  outcomes = q.question.outcomes;
}

pub record IsAskedBy (text : List ℕ) (conditions : Conditions) (settings : RandomSettings) (asked : CheckedRandomQuestion) : Type 0 where
  pub accepted : IsAccepted text (spec_of asked.checked.spec)
  pub always : AreAllJoined (texts_of conditions.always.items) asked.checked asked.question.always
  pub when_quiet : MayBeConditionOf (spec_of asked.checked.spec) (text_of conditions.when_quiet) asked.question.when_quiet
  pub turns : asked.question.turns ≡ settings.turns
  pub steps : asked.question.steps ≡ settings.steps
  pub runs : asked.question.runs ≡ settings.runs
  pub seed : asked.question.seed ≡ settings.seed
  pub outcomes : asked.question.outcomes ≡ settings.outcomes
