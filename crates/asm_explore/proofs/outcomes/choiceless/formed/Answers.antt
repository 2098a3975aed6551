use Rattle.std.proofs.Common.{◌∙◌}
use Rattle.asm_code.specs.code.RuleViews.{rule_of}
use Rattle.asm_eval.specs.code.Frames.{readings_of}
use Rattle.asm_eval.specs.code.Evaluation.{frame_locations}
use Rattle.asm_explore.specs.code.ExploredRules.{exploration_shape, exploration_state, yields_on}
use Rattle.asm_explore.proofs.OutcomeLemmas.Choiceless.{set_formed, exhausted_formed, set_shows, exhausted_shows}
use Rattle.asm_explore.proofs.outcomes.choiceless.formed.Goals as goal

pub returns-in-Set-clause-lists : goal.returns-in-Set-clause-lists
returns-in-Set-clause-lists c =
    let a = c.args in
    let on = a.exploration.now in
    let shape = exploration_shape on in
    let P = rule_of a.rule.now in
    let is = set_formed _ shape c.in_ok-outcome.outcome c.in-Set.set c.in-Set.instances c.in_ok-outcome.ensures c.in-Set.is in
    c.in_ok-found-in-Set.ensures.lists shape (yields_on on a.frame.now a.path.now P) (c.in_ok-updates-in-Set.ensures.count ∙ is.count)
    (set_shows shape on.turns _ P (readings_of shape a.frame.now) (frame_locations shape a.frame.now) (exploration_state on) a.path.now c.requires.choiceless c.in-Set.set c.in-Set.instances
    c.in_ok-updates-in-Set.updates is (λ U. c.in_ok-updates-in-Set.ensures.stands shape U))

pub returns-clause-lists : goal.returns-clause-lists
returns-clause-lists c =
    let a = c.args in
    let on = a.exploration.now in
    let shape = exploration_shape on in
    let P = rule_of a.rule.now in
    let is = exhausted_formed _ shape c.in_ok-outcome.outcome c.in-Exhausted.path c.in_ok-outcome.ensures c.in-Exhausted.is in
    c.in_ok-found-in-Exhausted.ensures.lists shape (yields_on on a.frame.now a.path.now P) tt
    (exhausted_shows shape on.turns _ P (readings_of shape a.frame.now) (frame_locations shape a.frame.now) (exploration_state on) a.path.now c.requires.choiceless c.in-Exhausted.path is)
