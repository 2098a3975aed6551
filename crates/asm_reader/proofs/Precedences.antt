-- Free. How far a function on terms is above the primaries.
use Rattle.std.proofs.Common.{ℕ}
use Rattle.asm_reader.specs.declared.terms.Precedence.{Precedence}
use Rattle.asm_reader.specs.declared.terms.Precedence.TheVariants as precedence

abbrev pub operand_rank : Precedence → ℕ
operand_rank precedence.Disjunction = 24
operand_rank precedence.Conjunction = 19
operand_rank precedence.Sum = 9
operand_rank precedence.Product = 4
