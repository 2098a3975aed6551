use Rattle.std.proofs.Common.{◌≡◌, subst}
use Rattle.asm_explore.specs.code.OutcomeLists.{AnyOf}
use Rattle.asm_explore.specs.code.PackedNodes.{Node}
use Rattle.asm_explore.proofs.states.indexed_nodes.IndexedNodes.has_one_of.Goals as goal

pub returns : goal.returns
returns c = λ yes m there.
    subst (AnyOf (λ (n : Node). n.state ≡ m.state)) c.self.view_is (c.is_there.ensures yes m there)
