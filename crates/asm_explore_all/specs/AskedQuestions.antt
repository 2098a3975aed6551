-- Definition. What is asked of all runs of a specification, by the bytes of its text and of
-- conditions, and what is found.
--     AskedQuestion                        a specification, and what is looked for in it: the
--                                          condition for each state, that for each quiet state, that
--                                          for the states from which runs are followed; the limits
--     IsAsked                              the specification of the text, and a question with the
--                                          terms of the conditions
--     IsExplored                           what the result claims of the runs of the specification
--                                          with this text
use Rattle.std.specs.Prelude.{◌≡◌, ℕ, List, Option}
use Rattle.asm_syntax.specs.SourceTree.{Spec, Term}
use Rattle.asm_meaning.specs.Declarations.{specification_of}
use Rattle.asm_run.specs.Headline.{IsAccepted}
use Rattle.asm_explore.specs.ExplorationResults.{IsExplorationResult}
use Rattle.asm_explore.specs.Conditions.{condition_holds}
use Rattle.asm_explore.specs.TooManyOutcomes.{IsCrowded}
use Rattle.asm_explore.specs.declared.exploration_result.ExplorationResult.{ExplorationResult}
use Rattle.asm_explore_texts.specs.Conditions.{MayBeAskedOf, text_of, texts_of}
use Rattle.asm_explore_report.specs.AskedConditions.{AreAllAsked}
use Rattle.asm_explore_texts.specs.declared.conditions.Conditions.{Conditions}
use Rattle.asm_explore_words.specs.declared.settings.Settings.{Settings}

pub record AskedQuestion : Type 0 where
  pub spec : Spec
  pub always : Option Term
  pub when_quiet : Option Term
  pub within : Option Term
  pub turns : ℕ
  pub steps : ℕ
  pub states : ℕ
  pub outcomes : ℕ

pub record IsAsked (text : List ℕ) (conditions : Conditions) (settings : Settings) (asked : AskedQuestion) : Type 0 where
  pub accepted : IsAccepted text asked.spec
  -- the terms of the conditions for each state
  pub terms : List Term
  pub always : AreAllAsked (texts_of conditions.always.items) asked.spec asked.always terms
  pub when_quiet : MayBeAskedOf asked.spec (text_of conditions.when_quiet) asked.when_quiet
  pub within : MayBeAskedOf asked.spec (text_of conditions.within) asked.within
  pub turns : asked.turns ≡ settings.turns
  pub steps : asked.steps ≡ settings.steps
  pub states : asked.states ≡ settings.states
  pub outcomes : asked.outcomes ≡ settings.outcomes

-- what the result claims of the runs of the specification with this text
pub record IsExplored (text : List ℕ) (conditions : Conditions) (settings : Settings) (answer : ExplorationResult) : Type 0 where
  pub asked : AskedQuestion
  pub is_asked : IsAsked text conditions settings asked
  pub claims :
      IsExplorationResult (specification_of asked.spec) asked.turns (IsCrowded (specification_of asked.spec) asked.turns asked.outcomes) asked.steps asked.states
      (condition_holds asked.spec asked.always) (condition_holds asked.spec asked.when_quiet) (condition_holds asked.spec asked.within) answer
