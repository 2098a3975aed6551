use Rattle.std.proofs.Common.{◌∙◌, ◌++◌, ◌∷◌, [], filter, take, Vec, Global, ap, sym, append-nil, arith}
use Rattle.std.proofs.lemmas.List.{take_all}
use Rattle.asm_state.specs.declared.value.Value.{Value}
use Rattle.asm_eval.specs.code.Evaluation.{is_passing}
use Rattle.asm_explore.proofs.CodeLists.{universe_here}
use Rattle.asm_explore.proofs.OutcomeLemmas.RuleOutcomes.{more_candidates}
use Rattle.asm_explore.proofs.outcomes.candidates.candidates.Goals as goal
use Rattle.asm_explore.proofs.outcomes.candidates.candidates.Goals.{then-passes+in_ok-push, else-passes}

pub loop-i-preserved : goal.loop-i-preserved
loop-i-preserved c =
    let a = c.args in
    let l = c.loop-i in
    let p = is_passing a.view.now a.frame.now a.test.now in
    let us = c.universe-universe.result.now in
    let v = c.element-value.result in
    elim c.if-passes.branch [
      | then-passes+in_ok-push w ↦
          ap (λ (xs : Vec Value Global). xs.items) w.found-is ∙ w.in_ok-push.ensures.items ∙ ap (λ xs. xs ++ v ∷ []) l.invariant
          ∙ sym (more_candidates p us l.i v _ c.element-value.ensures (sym w.if-passes.true ∙ c.passes.ensures ∙ ap p c.unbranded_code.ensures))
      | else-passes w ↦
          ap (λ (xs : Vec Value Global). xs.items) w.found-is ∙ l.invariant ∙ sym (append-nil (filter p (take l.i us)))
          ∙ sym (more_candidates p us l.i v _ c.element-value.ensures (sym w.if-passes.false ∙ c.passes.ensures ∙ ap p c.unbranded_code.ensures))
    ]

pub returns : goal.returns
returns c =
    let a = c.args in
    let l = c.loop-i in
    let p = is_passing a.view.now a.frame.now a.test.now in
    let us = c.universe-universe.result.now in
    l.invariant ∙ ap (filter p) (take_all l.i us (omega (arith, c.size-i-end.ensures.size)))
    ∙ ap (filter p) (sym (universe_here a.view.now.signature.now.universes a.over us c.universe-universe.ensures))
