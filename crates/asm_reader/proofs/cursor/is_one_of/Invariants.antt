use Rattle.std.proofs.Common.{◌≡◌, length}
use Rattle.asm_reader.specs.Kinds as kinds
use Rattle.asm_reader.proofs.cursor.is_one_of.Given as goal

abbrev pub invariant-loop-all : goal.invariant-loop-all
invariant-loop-all l = kinds.is_one_of l.all l.kind ≡ kinds.is_one_of l.fn.all l.kind

abbrev pub decreases-loop-all : goal.decreases-loop-all
decreases-loop-all l = length l.all
