use Rattle.std.proofs.Common.{◌≡◌, ◌+◌, ◌≤◌, ◌<◌, ◌⊎◌, ◌∙◌, true, false, length, ap, sym, subst}
use Rattle.std.specs.Prelude.{Some, IfNone, IfSome, slice_get}
use Rattle.std.proofs.lemmas.Option.{slice_get-get_or}
use Rattle.asm_state.specs.code.Contents.{IsStateOf}
use Rattle.asm_state.specs.Signature.{state_of}
use Rattle.asm_code.specs.code.RuleViews.{rule_of}
use Rattle.asm_explore.specs.code.ChoicesMade.{made_in}
use Rattle.asm_explore.specs.code.StepOutcomes.{IsListed, IsStep}
use Rattle.asm_explore.specs.code.OutcomeLists.{Each}
use Rattle.asm_graph.specs.declared.graph.Edge.{Edge}
use Rattle.asm_graph.specs.declared.graph.Node.{Node}
use Rattle.asm_graph.specs.Graphs.{AreEdges, state_at}
use Rattle.asm_graph.specs.code.GraphSoFar.{IsLed, IsNear, IsNodeRight, NodesGrow}
use Rattle.asm_graph.specs.code.ResolvedMachines.{rests_in, right_in, shape_in, specification_in, within_in}
use Rattle.asm_graph.proofs.MoreNodes.{grows_none, none_new}
use Rattle.asm_graph.proofs.Paired.{each_got}
use Rattle.asm_graph.proofs.build_graph.Walk.step_from.Goals as goal

pub state_to_follow-requires-clause-whole : goal.state_to_follow-requires-clause-whole
state_to_follow-requires-clause-whole c =
    let a = c.args in
    let shape = shape_in a.self.now.machine.now in
    let specification = specification_in a.self.now.machine.now in
    let turns = a.self.now.machine.now.turns in
    let within = within_in a.self.now.machine.now in
    let right = right_in a.self.now.machine.now in
    let rests = rests_in a.self.now.machine.now in
    let n = c.index-node.result.now in
    let there : slice_get a.nodes.now.items a.number ≡ Some n = slice_get-get_or a.nodes.now.items a.number n c.requires.number ∙ ap Some (sym c.index-node.ensures) in
    let kept = each_got (IsNodeRight shape specification turns within right rests) a.nodes.now.items a.number n c.requires.nodes.each there in
    kept.kept.whole

pub returns-in_default-clause-grows : goal.returns-in_default-clause-grows
returns-in_default-clause-grows c =
    let a = c.args in
    let shape = shape_in a.self.now.machine.now in
    let specification = specification_in a.self.now.machine.now in
    let turns = a.self.now.machine.now.turns in
    let within = within_in a.self.now.machine.now in
    let right = right_in a.self.now.machine.now in
    let rests = rests_in a.self.now.machine.now in
    λ m here. grows_none shape specification turns within right rests a.self.now.steps a.self.now.most (m.depth + 1) a.nodes.now.items c.requires.nodes

pub returns-in_default-clause-new : goal.returns-in_default-clause-new
returns-in_default-clause-new c = none_new c.args.nodes.now.items (λ i. ⊥)

pub returns-in_default-clause-shown : goal.returns-in_default-clause-shown
returns-in_default-clause-shown c = λ m here.
    let a = c.args in
    let shape = shape_in a.self.now.machine.now in
    let specification = specification_in a.self.now.machine.now in
    let turns = a.self.now.machine.now.turns in
    let within = within_in a.self.now.machine.now in
    let right = right_in a.self.now.machine.now in
    let rests = rests_in a.self.now.machine.now in
    let n = c.index-node.result.now in
    let there : slice_get a.nodes.now.items a.number ≡ Some n = slice_get-get_or a.nodes.now.items a.number n c.requires.number ∙ ap Some (sym c.index-node.ensures) in
    let same : n ≡ m = cc in
    subst (λ (x : Node). (a.self.now.steps ≤ x.depth) ⊎ (within (state_at shape x) ≡ false)) same
    (subst (λ o. IfNone o ((a.self.now.steps ≤ n.depth) ⊎ (within (state_at shape n) ≡ false))) c.in_default.is c.in_ok-state.ensures.none)

pub outcomes-requires-clause-whole : goal.outcomes-requires-clause-whole
outcomes-requires-clause-whole c =
    let a = c.args in
    let shape = shape_in a.self.now.machine.now in
    let specification = specification_in a.self.now.machine.now in
    let turns = a.self.now.machine.now.turns in
    let within = within_in a.self.now.machine.now in
    let right = right_in a.self.now.machine.now in
    let rests = rests_in a.self.now.machine.now in
    let n = c.index-node.result.now in
    let there : slice_get a.nodes.now.items a.number ≡ Some n = slice_get-get_or a.nodes.now.items a.number n c.requires.number ∙ ap Some (sym c.index-node.ensures) in
    let kept = each_got (IsNodeRight shape specification turns within right rests) a.nodes.now.items a.number n c.requires.nodes.each there in
    let some = subst (λ o. IfSome o (λ state. (state ≡ n.state) × (n.depth < a.self.now.steps) × (within (state_at shape n) ≡ true))) c.in-Some.is c.in_ok-state.ensures.some in
    ap length some.0 ∙ kept.kept.whole

pub edges_from-requires-clause-from : goal.edges_from-requires-clause-from
edges_from-requires-clause-from c =
    let a = c.args in
    let shape = shape_in a.self.now.machine.now in
    let specification = specification_in a.self.now.machine.now in
    let turns = a.self.now.machine.now.turns in
    let within = within_in a.self.now.machine.now in
    let right = right_in a.self.now.machine.now in
    let rests = rests_in a.self.now.machine.now in
    let n = c.index-node.result.now in
    let there : slice_get a.nodes.now.items a.number ≡ Some n = slice_get-get_or a.nodes.now.items a.number n c.requires.number ∙ ap Some (sym c.index-node.ensures) in
    let kept = each_got (IsNodeRight shape specification turns within right rests) a.nodes.now.items a.number n c.requires.nodes.each there in
    let some = subst (λ o. IfSome o (λ state. (state ≡ n.state) × (n.depth < a.self.now.steps) × (within (state_at shape n) ≡ true))) c.in-Some.is c.in_ok-state.ensures.some in
    subst (IsStateOf shape) (sym some.0) kept.kept

pub edges_from-requires-clause-led : goal.edges_from-requires-clause-led
edges_from-requires-clause-led c =
    let a = c.args in
    let shape = shape_in a.self.now.machine.now in
    let specification = specification_in a.self.now.machine.now in
    let turns = a.self.now.machine.now.turns in
    let within = within_in a.self.now.machine.now in
    let right = right_in a.self.now.machine.now in
    let rests = rests_in a.self.now.machine.now in
    let n = c.index-node.result.now in
    let there : slice_get a.nodes.now.items a.number ≡ Some n = slice_get-get_or a.nodes.now.items a.number n c.requires.number ∙ ap Some (sym c.index-node.ensures) in
    let kept = each_got (IsNodeRight shape specification turns within right rests) a.nodes.now.items a.number n c.requires.nodes.each there in
    let some = subst (λ o. IfSome o (λ state. (state ≡ n.state) × (n.depth < a.self.now.steps) × (within (state_at shape n) ≡ true))) c.in-Some.is c.in_ok-state.ensures.some in
    subst (λ xs. IsLed specification turns within n.depth (state_of shape xs)) (sym some.0) kept.led

pub edges_from-requires-clause-inside : goal.edges_from-requires-clause-inside
edges_from-requires-clause-inside c =
    let a = c.args in
    let shape = shape_in a.self.now.machine.now in
    let specification = specification_in a.self.now.machine.now in
    let turns = a.self.now.machine.now.turns in
    let within = within_in a.self.now.machine.now in
    let right = right_in a.self.now.machine.now in
    let rests = rests_in a.self.now.machine.now in
    let n = c.index-node.result.now in
    let there : slice_get a.nodes.now.items a.number ≡ Some n = slice_get-get_or a.nodes.now.items a.number n c.requires.number ∙ ap Some (sym c.index-node.ensures) in
    let some = subst (λ o. IfSome o (λ state. (state ≡ n.state) × (n.depth < a.self.now.steps) × (within (state_at shape n) ≡ true))) c.in-Some.is c.in_ok-state.ensures.some in
    ap (λ xs. within (state_of shape xs)) some.0 ∙ some.2

pub edges_from-requires-clause-shallow : goal.edges_from-requires-clause-shallow
edges_from-requires-clause-shallow c =
    let a = c.args in
    let shape = shape_in a.self.now.machine.now in
    let specification = specification_in a.self.now.machine.now in
    let turns = a.self.now.machine.now.turns in
    let within = within_in a.self.now.machine.now in
    let right = right_in a.self.now.machine.now in
    let rests = rests_in a.self.now.machine.now in
    let n = c.index-node.result.now in
    let there : slice_get a.nodes.now.items a.number ≡ Some n = slice_get-get_or a.nodes.now.items a.number n c.requires.number ∙ ap Some (sym c.index-node.ensures) in
    let some = subst (λ o. IfSome o (λ state. (state ≡ n.state) × (n.depth < a.self.now.steps) × (within (state_at shape n) ≡ true))) c.in-Some.is c.in_ok-state.ensures.some in
    some.1

pub edges_from-requires-clause-near : goal.edges_from-requires-clause-near
edges_from-requires-clause-near c =
    let a = c.args in
    let shape = shape_in a.self.now.machine.now in
    let specification = specification_in a.self.now.machine.now in
    let turns = a.self.now.machine.now.turns in
    let within = within_in a.self.now.machine.now in
    let right = right_in a.self.now.machine.now in
    let rests = rests_in a.self.now.machine.now in
    let n = c.index-node.result.now in
    let there : slice_get a.nodes.now.items a.number ≡ Some n = slice_get-get_or a.nodes.now.items a.number n c.requires.number ∙ ap Some (sym c.index-node.ensures) in
    c.requires.near n there

pub edges_from-requires-clause-step : goal.edges_from-requires-clause-step
edges_from-requires-clause-step c =
    let a = c.args in
    let shape = shape_in a.self.now.machine.now in
    let specification = specification_in a.self.now.machine.now in
    let turns = a.self.now.machine.now.turns in
    let within = within_in a.self.now.machine.now in
    let right = right_in a.self.now.machine.now in
    let rests = rests_in a.self.now.machine.now in
    let m = a.self.now.machine.now in
    let makes = made_in shape turns (rule_of m.code.now) in
    subst (IsStep shape specification turns (state_of shape c.in-Some.state)) (sym c.as_slice-found.ensures.value)
    (subst (IsListed shape specification turns makes m.limit (state_of shape c.in-Some.state)) c.in-Ok.is c.outcomes.ensures).step

pub returns-in-Ok-clause-shown : goal.returns-in-Ok-clause-shown
returns-in-Ok-clause-shown c = λ m here.
    let a = c.args in
    let shape = shape_in a.self.now.machine.now in
    let specification = specification_in a.self.now.machine.now in
    let turns = a.self.now.machine.now.turns in
    let within = within_in a.self.now.machine.now in
    let right = right_in a.self.now.machine.now in
    let rests = rests_in a.self.now.machine.now in
    let n = c.index-node.result.now in
    let there : slice_get a.nodes.now.items a.number ≡ Some n = slice_get-get_or a.nodes.now.items a.number n c.requires.number ∙ ap Some (sym c.index-node.ensures) in
    let some = subst (λ o. IfSome o (λ state. (state ≡ n.state) × (n.depth < a.self.now.steps) × (within (state_at shape n) ≡ true))) c.in-Some.is c.in_ok-state.ensures.some in
    let same : n ≡ m = cc in
    let new = c.edges_from.new.nodes.items in
    let es = c.in_ok-edges-in-Ok.edges.items in
    subst (λ (x : Node). (x.depth < a.self.now.steps) × (within (state_at shape x) ≡ true) × AreEdges shape specification turns new (state_at shape x) es) same
    (some.1, some.2, subst (λ xs. AreEdges shape specification turns new (state_of shape xs) es) some.0 c.in_ok-edges-in-Ok.ensures.edges)

pub returns-in-Ok-clause-grows : goal.returns-in-Ok-clause-grows
returns-in-Ok-clause-grows c =
    let a = c.args in
    let shape = shape_in a.self.now.machine.now in
    let specification = specification_in a.self.now.machine.now in
    let turns = a.self.now.machine.now.turns in
    let within = within_in a.self.now.machine.now in
    let right = right_in a.self.now.machine.now in
    let rests = rests_in a.self.now.machine.now in
    let n = c.index-node.result.now in
    let there : slice_get a.nodes.now.items a.number ≡ Some n = slice_get-get_or a.nodes.now.items a.number n c.requires.number ∙ ap Some (sym c.index-node.ensures) in
    λ m here.
    let same : n ≡ m = cc in
    subst (λ (x : Node). NodesGrow shape specification turns within right rests a.self.now.steps a.self.now.most (x.depth + 1) a.nodes.now.items c.edges_from.new.nodes.items) same c.in_ok-edges-in-Ok.ensures.grows

pub returns-in-Ok-clause-near : goal.returns-in-Ok-clause-near
returns-in-Ok-clause-near c =
    let a = c.args in
    let shape = shape_in a.self.now.machine.now in
    let specification = specification_in a.self.now.machine.now in
    let turns = a.self.now.machine.now.turns in
    let within = within_in a.self.now.machine.now in
    let right = right_in a.self.now.machine.now in
    let rests = rests_in a.self.now.machine.now in
    let n = c.index-node.result.now in
    let there : slice_get a.nodes.now.items a.number ≡ Some n = slice_get-get_or a.nodes.now.items a.number n c.requires.number ∙ ap Some (sym c.index-node.ensures) in
    λ m here.
    let same : n ≡ m = cc in
    let es = c.in_ok-edges-in-Ok.edges.items in
    subst (λ (x : Node). Each (λ (e : Edge). IsNear c.edges_from.new.nodes.items (x.depth + 1) e.to) es) same c.in_ok-edges-in-Ok.ensures.near
