use Rattle.std.proofs.Common.{◌≡◌, List, ap, arith, length, subst}
use Rattle.std.specs.Prelude.{slice_get, IfOk, Some}
use Rattle.asm_state.specs.declared.value.Value.{Value}
use Rattle.asm_explore.specs.code.PackedNodes.{Node}
use Rattle.asm_explore.proofs.states.indexed_nodes.IndexedNodes.state.Goals as goal

pub state-requires-clause-number : goal.state-requires-clause-number
state-requires-clause-number c = omega (arith, c.requires.number, ap length c.self.view_is)

pub state-requires-clause-whole : goal.state-requires-clause-whole
state-requires-clause-whole c = λ n there.
    c.requires.whole n (subst (λ (ns : List Node). slice_get ns c.args.number ≡ Some n) c.self.view_is there)

pub returns : goal.returns
returns c =
    subst (λ (ns : List Node). IfOk c.state.result (λ (state : List Value). (n : Node) → slice_get ns c.args.number ≡ Some n → state ≡ n.state)) c.self.view_is c.state.ensures
