use Rattle.std.proofs.Common.{◌≡◌, length}
use Rattle.asm_explore.specs.code.PackedNodes.{GrowsBy, IsFront}
use Rattle.asm_explore.proofs.states.nodes.put_bytes.Given as goal

abbrev pub invariant-loop-n : goal.invariant-loop-n
invariant-loop-n l = GrowsBy (λ more. (length more ≡ l.n) × IsFront l.state more) l.fn.bytes.items l.bytes.items
