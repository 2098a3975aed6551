use Rattle.std.proofs.Common.{◌≡◌, ◌+◌, take, length}
use Rattle.asm_explore.specs.code.PackedNodes.{contents_of}
use Rattle.asm_explore.proofs.states.nodes.unpacked.Given as goal

-- the contents so far are those
abbrev pub invariant-loop-i : goal.invariant-loop-i
invariant-loop-i l = record {
  so_far : take l.i l.state ≡ take l.i (contents_of l.bytes l.words);
  whole : length l.state ≡ length l.like;
}

abbrev pub invariant-loop-i-2 : goal.invariant-loop-i-2
invariant-loop-i-2 l = record {
  so_far : take (length l.bytes + l.i) l.state ≡ take (length l.bytes + l.i) (contents_of l.bytes l.words);
  whole : length l.state ≡ length l.like;
}
