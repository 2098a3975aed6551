use Rattle.std.proofs.Common.{◌≡◌, filter, ap, sym, ◌∙◌, arith, Some}
use Rattle.asm_state.specs.Words.{value_of_code}
use Rattle.asm_eval.specs.declared.found_candidate.FoundCandidate.TheVariants.{At}
use Rattle.asm_eval.specs.code.FoundCandidates.{found_candidate}
use Rattle.asm_eval.proofs.Candidates.{candidate_laws-one_more as one_more_passes, candidate_laws-none_more as none_more_passes, candidate_laws-met as met_at, candidate_laws-passed as passed_all}
use Rattle.asm_eval.specs.code.Evaluation.{is_passing}
use Rattle.asm_eval.proofs.CodeCandidates.{all_pass_here, passing_here}
use Rattle.asm_eval.proofs.choose.find_candidate.Goals as goal
use Rattle.asm_eval.proofs.choose.find_candidate.Goals.{then-passes+else-met-number, else-passes}

pub returns-then-is_none : goal.returns-then-is_none
returns-then-is_none c =
    let a = c.args in
    c.element_at.ensures ∙ ap (found_candidate a.number) (all_pass_here a.view.now a.frame.now a.over c.universe-universe.result.now c.universe-universe.ensures a.test.now c.if-is_none.ensures)

pub returns-then-met-number : goal.returns-then-met-number
returns-then-met-number c =
    let a = c.args in
    let us = c.universe-universe.result.now in
    let p = is_passing a.view.now a.frame.now a.test.now in
    let same : c.element-then-met-number.result ≡ value_of_code c.unbranded_code.result.value = grind (arith, c.element-then-met-number.ensures, c.element.ensures, c.unbranded_code.ensures) in
    ap At same ∙ met_at p us c.loop-i.i (value_of_code c.unbranded_code.result.value) c.loop-i.met (c.element.ensures ∙ ap Some (sym c.unbranded_code.ensures)) (sym c.passes.ensures ∙ c.if-passes.true) c.loop-i.invariant.counted
    ∙ ap (λ n. found_candidate n (filter p us)) c.if-met-number.true ∙ ap (found_candidate a.number) (passing_here a.view.now a.frame.now a.over us c.universe-universe.ensures a.test.now)

pub loop-i-preserved : goal.loop-i-preserved
loop-i-preserved c =
    let a = c.args in
    let us = c.universe-universe.result.now in
    let p = is_passing a.view.now a.frame.now a.test.now in
    elim c.if-passes.branch [
      | then-passes+else-met-number w ↦ record {
        counted = w.met-is ∙ one_more_passes p us c.loop-i.i (value_of_code c.unbranded_code.result.value) c.loop-i.met (c.element.ensures ∙ ap Some (sym c.unbranded_code.ensures)) (sym c.passes.ensures ∙ w.if-passes.true) c.loop-i.invariant.counted;
        behind = omega arith;
      }
      | else-passes w ↦ record {
        counted = w.met-is ∙ none_more_passes p us c.loop-i.i (value_of_code c.unbranded_code.result.value) c.loop-i.met (c.element.ensures ∙ ap Some (sym c.unbranded_code.ensures)) (sym c.passes.ensures ∙ w.if-passes.false) c.loop-i.invariant.counted;
        behind = omega arith;
      }
    ]

pub returns : goal.returns
returns c =
    let a = c.args in
    let us = c.universe-universe.result.now in
    let p = is_passing a.view.now a.frame.now a.test.now in
    passed_all p us c.loop-i.i c.loop-i.met a.number (omega (arith, c.size-i-end.ensures.size)) c.loop-i.invariant.counted c.loop-i.invariant.behind
    ∙ ap (found_candidate a.number) (passing_here a.view.now a.frame.now a.over us c.universe-universe.ensures a.test.now)
