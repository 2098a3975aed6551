use Rattle.std.proofs.Common.{inl, refl, subst}
use Rattle.std.proofs.lemmas.Option.{IfSome_then}
use Rattle.std.proofs.lemmas.Result.{err_from_is_err_and}
use Rattle.asm_syntax.specs.code.Views.{spec_of}
use Rattle.asm_explore_report.specs.code.JoinedConditions.{AreAllJoined}
use Rattle.asm_explore_texts.specs.Conditions.{texts_of}
use Rattle.asm_explore_texts.specs.RefusedTexts.{IsOneRefused, refused_in}
use Rattle.asm_explore_all.proofs.checked_question.question_of.Goals as goal

pub returns-in-Ok-clause-found : goal.returns-in-Ok-clause-found
returns-in-Ok-clause-found c = λ text accepted. record {
  accepted = accepted;
  always = subst (λ cs. AreAllJoined (texts_of cs) c.args.checked.now c.in_ok-always.always) c.as_slice.ensures.value c.in_ok-always.ensures.found;
  when_quiet = c.in-Ok.ensures.when_quiet;
  within = c.in-Ok.ensures.within;
  turns = refl;
  steps = refl;
  states = refl;
  outcomes = refl;
}

pub returns-in_err-always-clause-refused : goal.returns-in_err-always-clause-refused
returns-in_err-always-clause-refused c =
    let p = err_from_is_err_and c.from_residual.result c.from_residual.ensures.1 in
    let spec = spec_of c.args.checked.now.spec in
    let h = c.in_err-always.ensures.refused in
    rw (p.1, p.2) (IfSome_then (refused_in c.in_err-always.field-0.0) h.0 (λ r is. inl (subst (λ cs. IsOneRefused spec cs r) c.as_slice.ensures.value is)), h.1)
