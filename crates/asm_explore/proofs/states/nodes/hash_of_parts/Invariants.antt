use Rattle.std.proofs.Common.{◌≡◌, ◌+◌, take, length}
use Rattle.asm_explore.specs.code.PackedNodes.{contents_of}
use Rattle.asm_explore.specs.code.StateHashes.{hash_of_contents}
use Rattle.asm_explore.proofs.states.nodes.hash_of_parts.Given as goal

-- the hash of the contents so far
abbrev pub invariant-loop-i : goal.invariant-loop-i
invariant-loop-i l = l.hash ≡ hash_of_contents (take l.i (contents_of l.bytes l.words))

abbrev pub invariant-loop-i-2 : goal.invariant-loop-i-2
invariant-loop-i-2 l = l.hash ≡ hash_of_contents (take (length l.bytes + l.i) (contents_of l.bytes l.words))
