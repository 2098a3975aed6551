-- Free. What is asked by terms of the code is asked by terms of the source.
use Rattle.std.proofs.Common.{ℕ, List, Option}
use Rattle.asm_syntax.specs.code.Views.{spec_of, test_of}
use Rattle.asm_syntax.specs.declared.term.Term.{Term}
use Rattle.asm_check.specs.declared.checked.Checked.{Checked}
use Rattle.asm_explore_texts.specs.Conditions.{texts_of}
use Rattle.asm_explore_texts.specs.code.CodedConditions.{terms_in}
use Rattle.asm_explore_texts.specs.declared.conditions.Conditions.{Conditions}
use Rattle.asm_explore_words.specs.declared.settings.Settings.{Settings}
use Rattle.asm_explore_report.specs.AskedConditions.{AreAllAsked}
use Rattle.asm_explore_report.specs.code.JoinedConditions.{AreAllJoined}
use Rattle.asm_explore_all.specs.AskedQuestions.{IsAsked}
use Rattle.asm_explore_all.specs.code.CodedQuestions.{IsAskedBy, plain}
use Rattle.asm_explore_all.specs.declared.checked_question.CheckedQuestion.{CheckedQuestion}

-- the law of the crate that joins the conditions
abbrev AllAskedLaw : Type 0
AllAskedLaw = (texts : List (List ℕ)) (checked : Checked) (t : Option Term) (joined : AreAllJoined texts checked t) → AreAllAsked texts (spec_of checked.spec) (test_of t) (terms_in joined.links)

abbrev pub asked_plain : AllAskedLaw → (text : List ℕ) (conditions : Conditions) (settings : Settings) (q : CheckedQuestion) → IsAskedBy text conditions settings q → IsAsked text conditions settings (plain q)
asked_plain law text conditions settings q by = record {
  accepted = by.accepted;
  terms = terms_in by.always.links;
  always = law (texts_of conditions.always.items) q.checked q.question.always by.always;
  when_quiet = by.when_quiet;
  within = by.within;
  turns = by.turns;
  steps = by.steps;
  states = by.states;
  outcomes = by.outcomes;
}
