use Rattle.std.proofs.Common.{◌∙◌, ap, sym, subst}
use Rattle.asm_state.specs.Signature.{location_at}
use Rattle.asm_state.specs.Updates.{one}
use Rattle.asm_state.proofs.UpdateLemmas.UnionsAndMerges.{union_laws}
use Rattle.asm_updates.specs.code.Stands.{Stands}
use Rattle.asm_eval.specs.code.Evaluation.{location_numbered}
use Rattle.asm_explore.specs.declared.outcomes.listed_outcome.RuleResult.TheVariants as answer
use Rattle.asm_explore.specs.code.ExploredRules.{exploration_shape, yields_on}
use Rattle.asm_explore.specs.code.OutcomeLists.{Shows}
use Rattle.asm_explore.proofs.OutcomeLemmas.RuleOutcomes.{assign, no_update_yields, update_yields}
use Rattle.asm_explore.proofs.outcomes.leaf_outcomes.assigned.Goals as goal

pub returns-in_default-clause-lists : goal.returns-in_default-clause-lists
returns-in_default-clause-lists c =
    let a = c.args in
    let shape = exploration_shape a.exploration.now in
    c.alone.ensures.lists shape (yields_on a.exploration.now a.frame.now a.path.now (assign a.exploration.now a.frame.now a.path.now a.place.now a.new.now))
    c.no_updates-updates.ensures.count
    (λ s. subst (Shows shape (answer.Set c.no_updates-updates.result))
    (no_update_yields a.exploration.now a.frame.now a.path.now a.place.now a.new.now (sym (ap (location_numbered shape) c.in_default.is) ∙ c.in_ok-n.ensures.location) s)
    c.no_updates-updates.ensures.none)

pub returns-clause-lists : goal.returns-clause-lists
returns-clause-lists c =
    let a = c.args in
    let shape = exploration_shape a.exploration.now in
    let at = location_at shape c.in-Some.n in
    c.alone-2.ensures.lists shape (yields_on a.exploration.now a.frame.now a.path.now (assign a.exploration.now a.frame.now a.path.now a.place.now a.new.now))
    c.in_ok-updates.ensures.count
    (λ s. subst (Shows shape (answer.Set c.in_ok-updates.updates))
    (update_yields a.exploration.now a.frame.now a.path.now a.place.now a.new.now c.in-Some.n c.value-new.result
    (sym (ap (location_numbered shape) c.in-Some.is) ∙ c.in_ok-n.ensures.location) c.value-new.ensures s)
    (subst (Stands shape c.in_ok-updates.updates.set) (union_laws.unit (one at c.value-new.result)) c.in_ok-updates.ensures.one))
