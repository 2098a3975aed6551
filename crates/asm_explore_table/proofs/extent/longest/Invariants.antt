use Rattle.std.proofs.Common.{◌≤◌, Global, ℕ, Vec, length, take}
use Rattle.std.specs.Prelude.{All}
use Rattle.asm_explore_table.proofs.extent.longest.Given as goal

-- the first lines are no longer
abbrev pub invariant-loop-k : goal.invariant-loop-k
invariant-loop-k l = record {
  most : l.fn.most ≤ l.longest;
  lines : All (λ (line : Vec ℕ Global). length line.items ≤ l.longest) (take l.k l.lines);
}
