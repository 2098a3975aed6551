use Rattle.std.proofs.Common.{arith, sym}
use Rattle.asm_reader.proofs.Numbers.{too_great}
use Rattle.asm_reader.proofs.cursor.number_with.Goals as goal

pub returns-then-value : goal.returns-then-value
returns-then-value c = sym (too_great c.args.is_negative c.args.value (omega arith))
