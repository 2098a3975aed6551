use Rattle.std.proofs.Common.{◌≡◌, take}
use Rattle.asm_explore.specs.code.StateHashes.{hash_of_contents}
use Rattle.asm_explore.proofs.states.index.hash_of.Given as goal

-- the hash of the first contents
abbrev pub invariant-loop-n : goal.invariant-loop-n
invariant-loop-n l = l.hash ≡ hash_of_contents (take l.n l.state)
