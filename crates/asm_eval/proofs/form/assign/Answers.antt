use Rattle.std.proofs.Common.{refl, sym, ap, subst, ◌∙◌, arith, rules}
use Rattle.asm_updates.specs.code.Stands.{Stands}
use Rattle.asm_eval.proofs.FollowsLaws.{following_laws-nothing as follows_nothing}
use Rattle.asm_code.specs.code.CodeViews.{code_of}
use Rattle.asm_code.specs.code.RuleViews.{target_code_of}
use Rattle.asm_eval.specs.code.Frames.{tree_value}
use Rattle.asm_eval.specs.code.Evaluation.{location_numbered, target_in}
use Rattle.asm_eval.proofs.RuleYields.{assign_forms, no_place}
use Rattle.asm_eval.proofs.form.assign.Goals as goal

pub returns : goal.returns
returns c =
    let a = c.args in
    let shape = a.view.now.signature.now in
    record {
      count = search rules;
      path = refl;
      formed = assign_forms (target_in a.view.now a.frame.now (target_code_of a.place.now)) (tree_value a.view.now a.frame.now (code_of a.new.now)) shape c.in-Some.n c.value-new.result a.forming.now.set c.add_update.new.set a.forming.now.instances
          (omega (arith, a.forming.now.in_range)) (ap (location_numbered shape) (sym c.in-Some.is) ∙ c.in_ok-n.ensures.location) c.value-new.ensures (λ U stands. c.in_ok-add_update.ensures.update U (subst (λ k. Stands shape k U) (sym c.take_memory.ensures.same) stands));
      exhausted = tt;
    }

pub returns-in_default : goal.returns-in_default
returns-in_default c =
    let a = c.args in
    let shape = a.view.now.signature.now in
    follows_nothing shape tt _ a.forming.now (no_place shape c.in_ok-n.field-0 (target_in a.view.now a.frame.now (target_code_of a.place.now)) (tree_value a.view.now a.frame.now (code_of a.new.now)) c.in_default.is c.in_ok-n.ensures.location)
