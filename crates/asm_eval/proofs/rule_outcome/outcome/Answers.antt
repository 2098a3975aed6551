use Rattle.std.proofs.Common.{List, ℕ}
use Rattle.asm_eval.proofs.FromNothing.{from_nothing_laws-set as set_from_nothing, from_nothing_laws-stopped as stopped_from_nothing}
use Rattle.asm_code.specs.code.RuleViews.{rule_of}
use Rattle.asm_eval.specs.code.Evaluation.{rule_at, evaluation_shape}
use Rattle.asm_eval.proofs.rule_outcome.outcome.Goals as goal

pub returns-clause-formed : goal.returns-clause-formed
returns-clause-formed g c =
    let a = c.args in
    let shape = evaluation_shape a.evaluation.now in
    let o = λ (p : List ℕ). rule_at a.evaluation.now a.frame.now p (rule_of a.rule.now) in
    let begun = c.in_ok-forming.ensures in
    c.into_outcome.ensures shape (o a.path.now)
    (set_from_nothing shape o a.path.now c.in_ok-forming.forming c.form-formed.new.forming c.form-formed.result begun.set begun.count begun.instances begun.path c.form-formed.ensures.formed)
    (stopped_from_nothing shape o a.path.now c.in_ok-forming.forming c.form-formed.new.forming c.form-formed.result begun.set begun.count begun.instances begun.path c.form-formed.ensures.formed)
