use Rattle.std.proofs.Common.{List, ap, arith, length, sym, subst}
use Rattle.asm_explore.specs.code.IndexedNodes.{IsNew}
use Rattle.asm_explore.specs.code.PackedNodes.{Node}
use Rattle.asm_explore.proofs.StateLemmas.OwnStates.{added_ok, added_err, own_added}
use Rattle.asm_explore.proofs.states.indexed_nodes.IndexedNodes.add.Goals as goal

pub add_node-requires-clause-few : goal.add_node-requires-clause-few
add_node-requires-clause-few c = omega (arith, c.requires.few, ap length c.self.view_is)

pub invariant_of-self : goal.invariant_of-self
invariant_of-self c =
    let a = c.args in
    let old = c.self.inside.nodes in
    let node : Node = record { state = a.state.now; from = a.link.from; depth = a.link.depth } in
    let new = subst (λ (ns : List Node). IsNew ns a.state.now) (sym c.self.view_is) c.requires.new in
    (c.add_node.ensures.indexed, own_added c.add_node.result old c.add_node.new.nodes node c.self.invariant.1 new c.add_node.ensures.ok c.add_node.ensures.err)

pub returns-clause-ok : goal.returns-clause-ok
returns-clause-ok c =
    let a = c.args in
    let node : Node = record { state = a.state.now; from = a.link.from; depth = a.link.depth } in
    added_ok c.add_node.result c.self.inside.nodes a.self.now c.add_node.new.nodes node c.self.view_is c.add_node.ensures.ok

pub returns-clause-err : goal.returns-clause-err
returns-clause-err c =
    added_err c.add_node.result c.self.inside.nodes c.args.self.now c.add_node.new.nodes c.self.view_is c.add_node.ensures.err
