use Rattle.std.proofs.Common.{◌≡◌, List, length, sym, subst, take}
use Rattle.asm_state.specs.Signature.{count_of}
use Rattle.asm_explore.specs.ListElements.{Each}
use Rattle.asm_explore.specs.code.PackedNodes.{Node}
use Rattle.asm_explore.specs.code.StepsAhead.{AreAhead}
use Rattle.asm_explore.proofs.states.batch.look_from.Goals as goal

pub ahead-requires-clause-nodes : goal.ahead-requires-clause-nodes
ahead-requires-clause-nodes g c =
    subst (Each (λ (n : Node). length n.state ≡ count_of (g.M.Machine.shape c.args.machine.now))) (sym c.nodes.ensures) c.requires.nodes

pub returns-clause-ahead : goal.returns-clause-ahead
returns-clause-ahead g c =
    let machine = c.args.machine.now in
    subst (λ (ns : List Node). AreAhead (g.M.Machine.shape machine) (g.M.Machine.specification machine) (g.M.Machine.turns machine) ns (take (length c.in_ok-all.all.items) c.args.states.now) c.in_ok-all.all.items)
    c.nodes.ensures c.in_ok-all.ensures.ahead
