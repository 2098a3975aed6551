use Rattle.std.proofs.Common.{subst, refl}
use Rattle.asm_syntax.specs.code.Views.{spec_of, term_of}
use Rattle.asm_check.specs.Errors.{ExplainsTerm}
use Rattle.asm_explore_texts.proofs.condition.check_condition.Goals as goal

pub returns-in-Err-Named-clause-refused : goal.returns-in-Err-Named-clause-refused
returns-in-Err-Named-clause-refused c asked spelled =
    let spec = spec_of c.args.checked.now.spec in
    let t = term_of c.args.term.now in
    (record { term = t; spelled = spelled; fault = subst (ExplainsTerm spec t) c.in-Err-Named.field-0-is c.in-Err-Named.ensures.refused }, refl)

pub returns-in-Err-Named-clause-good : goal.returns-in-Err-Named-clause-good
returns-in-Err-Named-clause-good c good = let memory = c.in-Err-Named.ensures.good good in absurd (cc (memory, c.in-Err-Named.field-0-is))
