use Rattle.std.proofs.Common.{◌≡◌, List, length, sym, subst}
use Rattle.asm_explore.specs.code.IndexedNodes.{IsNew}
use Rattle.asm_explore.specs.ListElements.{Each}
use Rattle.asm_explore.specs.code.OutcomeLists.{AnyOf}
use Rattle.asm_explore.specs.code.PackedNodes.{Node}
use Rattle.asm_explore.proofs.states.indexed_nodes.IndexedNodes.has.Goals as goal

pub is_reached-requires-clause-nodes : goal.is_reached-requires-clause-nodes
is_reached-requires-clause-nodes c =
    subst (Each (λ (n : Node). length n.state ≡ c.args.count)) (sym c.self.view_is) c.requires.nodes

pub returns-clause-found : goal.returns-clause-found
returns-clause-found c = λ yes.
    subst (AnyOf (λ (n : Node). n.state ≡ c.args.state.now)) c.self.view_is (c.is_reached.ensures.found yes)

pub returns-clause-new : goal.returns-clause-new
returns-clause-new c = λ no.
    subst (λ (ns : List Node). IsNew ns c.args.state.now) c.self.view_is (c.is_reached.ensures.new no c.requires.hash c.self.invariant.0)
