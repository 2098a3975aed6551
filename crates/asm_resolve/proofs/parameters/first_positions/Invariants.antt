use Rattle.std.proofs.Common.{◌≡◌, ◌≤◌, length, map}
use Rattle.asm_syntax.specs.Tree.{Name}
use Rattle.asm_meaning.specs.code.MeantTrees.{text_of}
use Rattle.asm_resolve.specs.code.Slots.{position_of}
use Rattle.asm_resolve.proofs.FoundNames.{first_or, found_by}
use Rattle.asm_resolve.proofs.parameters.first_positions.Given as goal

abbrev pub decreases-loop-rest : goal.decreases-loop-rest
decreases-loop-rest l = length l.rest

-- what is left, and the map of the names after it, suffice for the whole
abbrev pub invariant-loop-rest : goal.invariant-loop-rest
invariant-loop-rest l = record {
  found : (x : Name) → first_or 0 (map text_of l.rest) (found_by l.positions.entries x) x ≡ position_of (map text_of l.names) x;
  within : length l.rest ≤ length l.names;
}
