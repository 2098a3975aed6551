use Rattle.std.proofs.Common.{◌≡◌, ◌∙◌, ◌++◌, ◌∷◌, [], length, refl, ap, sym, subst, arith}
use Rattle.std.specs.Prelude.{slice_get}
use Rattle.asm_state.specs.Signature.{state_of}
use Rattle.asm_graph.specs.declared.graph.Graph.{Graph}
use Rattle.asm_graph.specs.code.GraphSoFar.{AreNodesRight}
use Rattle.asm_graph.specs.code.ResolvedMachines.{crowds_in, rests_in, right_in, shape_in, specification_in, within_in}
use Rattle.asm_graph.proofs.FoundNodes.{one_rises}
use Rattle.asm_graph.proofs.SameConditions.{kept_graph}
use Rattle.asm_graph.proofs.TooMany.{first_too_many}
use Rattle.asm_graph.proofs.build_graph.build_graph.Goals as goal

pub new_node-first-requires-clause-led : goal.new_node-first-requires-clause-led
new_node-first-requires-clause-led c = ([], refl, c.requires.initial)

pub steps_from_all-requires-clause-nodes : goal.steps_from_all-requires-clause-nodes
steps_from_all-requires-clause-nodes c =
    let a = c.args in
    let shape = shape_in a.machine.now in
    let specification = specification_in a.machine.now in
    let turns = a.machine.now.turns in
    let within = within_in a.machine.now in
    let right = right_in a.machine.now in
    let rests = rests_in a.machine.now in
    let items : c.push.new.self.items ≡ c.new_node-first.result ∷ [] = c.in_ok-push.ensures.items ∙ ap (λ xs. xs ++ c.new_node-first.result ∷ []) c.new-nodes.ensures.items in
    let first = c.new_node-first.result in
    let deep : first.depth ≡ 0 = c.new_node-first.ensures.depth in
    subst (AreNodesRight shape specification turns within right rests a.steps a.most) (sym items)
    (record {
      each = (c.new_node-first.ensures.kept, tt);
      apart = (tt, tt);
      rise = one_rises first;
      shallow = (omega (arith, deep), tt);
      few = omega (arith, c.if-most-eq0.false);
    })

pub steps_from_all-requires-clause-one : goal.steps_from_all-requires-clause-one
steps_from_all-requires-clause-one c =
    ap length (c.in_ok-push.ensures.items ∙ ap (λ xs. xs ++ c.new_node-first.result ∷ []) c.new-nodes.ensures.items)

pub returns-then-most-eq0-clause-refused : goal.returns-then-most-eq0-clause-refused
returns-then-most-eq0-clause-refused c =
    let a = c.args in
    first_too_many c.script_law.ensures.makes (shape_in a.machine.now) (specification_in a.machine.now) a.machine.now.turns (within_in a.machine.now) a.steps a.most c.if-most-eq0.true

pub returns-clause-graph : goal.returns-clause-graph
returns-clause-graph c =
    let a = c.args in
    let shape = shape_in a.machine.now in
    let specification = specification_in a.machine.now in
    let turns = a.machine.now.turns in
    let within = within_in a.machine.now in
    let right = right_in a.machine.now in
    let rests = rests_in a.machine.now in
    let crowds = crowds_in a.machine.now in
    let first = c.new_node-first.result in
    let items : c.push.new.self.items ≡ first ∷ [] = c.in_ok-push.ensures.items ∙ ap (λ xs. xs ++ first ∷ []) c.new-nodes.ensures.items in
    let walk = c.in_ok-steps_from_all.ensures in
    let graph : Graph = record { nodes = c.steps_from_all.new.nodes; steps = c.steps_from_all.new.made } in
    kept_graph shape specification turns within c.script_law.ensures.makes crowds a.steps a.most right rests graph
    (first, walk.first ∙ ap (λ xs. slice_get xs 0) items, ap (state_of shape) c.new_node-first.ensures.state ∙ c.requires.initial) c.new_node-first.ensures.depth
    walk.kept walk.shown walk.near walk.found
