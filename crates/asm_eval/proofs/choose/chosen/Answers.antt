use Rattle.std.proofs.Common.{sym, ap, ◌∙◌}
use Rattle.asm_meaning.specs.Taken.{taken}
use Rattle.asm_eval.proofs.Candidates.{candidate_laws-taken as met_is_taken, candidate_laws-taken_again as met_again_is_taken}
use Rattle.asm_eval.specs.code.Evaluation.{passing_in}
use Rattle.asm_eval.proofs.choose.chosen.Goals as goal

pub returns-in-At-find_candidate : goal.returns-in-At-find_candidate
returns-in-At-find_candidate g c =
    let a = c.args in
    let vs = passing_in a.evaluation.now.view.now a.frame.now a.over a.test.now in
    met_is_taken c.pick-number.result vs c.in-At-find_candidate.value (sym c.in-At-find_candidate.is ∙ c.find_candidate-2.ensures)
    ∙ ap (λ n. taken n vs) c.pick-number.ensures

pub returns-in-At-find_candidate-2 : goal.returns-in-At-find_candidate-2
returns-in-At-find_candidate-2 g c =
    let a = c.args in
    let vs = passing_in a.evaluation.now.view.now a.frame.now a.over a.test.now in
    met_again_is_taken c.pick-number.result c.in-TooFew.count vs c.in-At-find_candidate-2.value (sym c.in-TooFew.is ∙ c.find_candidate-2.ensures)
    (sym c.in-At-find_candidate-2.is ∙ c.find_candidate-in-TooFew.ensures)
    ∙ ap (λ n. taken n vs) c.pick-number.ensures
