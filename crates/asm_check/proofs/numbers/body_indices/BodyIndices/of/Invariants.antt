use Rattle.std.proofs.Common.{map, take}
use Rattle.asm_syntax.specs.code.Views.{item_of}
use Rattle.asm_check.specs.code.numbers.NumberTables.{AreBodies}
use Rattle.asm_check.proofs.numbers.body_indices.BodyIndices.of.Given as goal

abbrev pub invariant-loop-k : goal.invariant-loop-k
invariant-loop-k l = AreBodies (map item_of (take l.k l.items)) l.rules.items l.derived.items
