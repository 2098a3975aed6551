use Rattle.std.proofs.Common.{◌≡◌, subst}
use Rattle.asm_state.specs.Signature.{initial_state, state_of}
use Rattle.asm_syntax.specs.code.Views.{spec_of}
use Rattle.asm_check.specs.Shapes.{shape_of}
use Rattle.asm_meaning.specs.Declarations.{specification_of}
use Rattle.asm_code.specs.code.RuleViews.{rule_of}
use Rattle.asm_explore.specs.code.ResolvedConditions.{holds_in}
use Rattle.asm_explore.specs.code.MainRule.{IsMainOverLimit}
use Rattle.asm_explore.specs.code.ChoicesMade.{made_in}
use Rattle.asm_explore.specs.code.StepOutcomes.{IsOverLimitOf}
use Rattle.asm_explore.proofs.OverLimits.{over_limit}
use Rattle.asm_graph.proofs.SameConditions.{crowded_otherwise}
use Rattle.asm_graph.proofs.graph_of_states.graph_of.Goals as goal

pub build_graph-requires-clause-initial : goal.build_graph-requires-clause-initial
build_graph-requires-clause-initial c =
    subst (λ shape. state_of shape c.in_ok-initial.initial ≡ initial_state shape) c.signature.ensures c.in_ok-initial.ensures.initial

pub returns-clause-graph : goal.returns-clause-graph
returns-clause-graph c =
    let m = c.args.specified.now in
    let s = spec_of m.checked.now.spec in
    let shape = shape_of s in
    crowded_otherwise shape (specification_of s) m.turns (holds_in shape m.within.now) (IsOverLimitOf (made_in shape m.turns (rule_of m.code.now)) m.limit)
    (IsMainOverLimit m.checked.now m.turns m.limit) (over_limit m.checked.now m.turns m.limit (rule_of m.code.now) c.requires.main) c.args.steps c.args.most
    (holds_in shape m.always.now) (holds_in shape m.when_quiet.now) c.in_ok-graph.graph c.in_ok-graph.ensures.graph
