use Rattle.std.proofs.Common.{subst}
use Rattle.std.proofs.lemmas.Result.{err_from_is_err_and}
use Rattle.asm_syntax.specs.code.Views.{spec_of, term_of}
use Rattle.asm_check.specs.TermFaults.{IsWellFormedTerm}
use Rattle.asm_explore_texts.proofs.condition.condition_term.Goals as goal

pub returns-in_err-term-clause-refused : goal.returns-in_err-term-clause-refused
returns-in_err-term-clause-refused c =
    let p = err_from_is_err_and c.from_residual.result c.from_residual.ensures.1 in
    rw (p.1, p.2) (c.in_err-term.ensures.refused (spec_of c.args.checked.now.spec))

pub returns-in_err-term-clause-accepted : goal.returns-in_err-term-clause-accepted
returns-in_err-term-clause-accepted c t is =
    let p = err_from_is_err_and c.from_residual.result c.from_residual.ensures.1 in
    rw (p.1, p.2) (c.in_err-term.ensures.accepted t is.spelled)

pub returns-in-Ok-clause-found : goal.returns-in-Ok-clause-found
returns-in-Ok-clause-found c = record { spelled = c.in_ok-term.ensures.found; well_formed = c.in-Ok.ensures.well_formed }

pub returns-in-Err-clause-refused : goal.returns-in-Err-clause-refused
returns-in-Err-clause-refused c = c.in-Err.ensures.refused c.args.condition.now c.in_ok-term.ensures.found

pub returns-in-Err-clause-accepted : goal.returns-in-Err-clause-accepted
returns-in-Err-clause-accepted c t is =
    let same = c.one_term.ensures c.args.condition.now t (term_of c.in_ok-term.term) is.spelled c.in_ok-term.ensures.found in
    c.in-Err.ensures.good (subst (IsWellFormedTerm (spec_of c.args.checked.now.spec)) same is.well_formed)
