use Rattle.std.proofs.Common.{◌≡◌, refl, subst}
use Rattle.asm_syntax.specs.code.Views.{spec_of}
use Rattle.asm_check.specs.Shapes.{shape_of}
use Rattle.asm_meaning.specs.Declarations.{specification_of}
use Rattle.asm_code.specs.code.RuleViews.{rule_of}
use Rattle.asm_explore.specs.ExplorationResults.{IsExplorationResult}
use Rattle.asm_explore.specs.code.ResolvedConditions.{holds_in}
use Rattle.asm_explore.specs.code.MainRule.{IsMainOverLimit}
use Rattle.asm_explore.specs.code.ChoicesMade.{made_in}
use Rattle.asm_explore.specs.code.StepOutcomes.{IsOverLimitOf}
use Rattle.asm_explore.proofs.OverLimits.{over_limit}
use Rattle.asm_explore.proofs.SearchEnds.{errs_or}
use Rattle.asm_explore.proofs.Specifications.{same_rule_result}
use Rattle.asm_state.specs.Signature.{initial_state, state_of}
use Rattle.asm_explore.proofs.explore_all.explore_specified.Goals as goal

pub explore_machine-requires-clause-initial : goal.explore_machine-requires-clause-initial
explore_machine-requires-clause-initial g c =
    subst (λ shape. state_of shape c.in_ok-initial.initial ≡ initial_state shape) c.signature.ensures c.in_ok-initial.ensures.initial

pub returns : goal.returns
returns g c =
    let m = c.args.specified.now in
    let s = spec_of m.checked.now.spec in
    let right = holds_in (shape_of s) m.always.now in
    let rests = holds_in (shape_of s) m.when_quiet.now in
    let within = holds_in (shape_of s) m.within.now in
    errs_or (IsExplorationResult (specification_of s) m.turns (IsOverLimitOf (made_in (shape_of s) m.turns (rule_of m.code.now)) m.limit) c.args.steps c.args.states right rests within)
    (IsExplorationResult (specification_of s) m.turns (IsMainOverLimit m.checked.now m.turns m.limit) c.args.steps c.args.states right rests within) c.explore_machine.result
    (λ answer. same_rule_result (specification_of s) m.turns (IsOverLimitOf (made_in (shape_of s) m.turns (rule_of m.code.now)) m.limit) (IsMainOverLimit m.checked.now m.turns m.limit)
    (over_limit m.checked.now m.turns m.limit (rule_of m.code.now) c.requires.main) c.args.steps c.args.states right rests within right rests within answer (λ A. refl) (λ A. refl) (λ A. refl)) c.explore_machine.ensures
