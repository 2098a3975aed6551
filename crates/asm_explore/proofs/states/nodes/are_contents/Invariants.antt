use Rattle.std.proofs.Common.{◌≡◌, ◌+◌, take, length}
use Rattle.asm_explore.specs.code.PackedNodes.{contents_of}
use Rattle.asm_explore.proofs.states.nodes.are_contents.Given as goal

-- the contents so far are the same
abbrev pub invariant-loop-i : goal.invariant-loop-i
invariant-loop-i l = take l.i (contents_of l.bytes l.words) ≡ take l.i l.state

abbrev pub invariant-loop-i-2 : goal.invariant-loop-i-2
invariant-loop-i-2 l = take (length l.bytes + l.i) (contents_of l.bytes l.words) ≡ take (length l.bytes + l.i) l.state
