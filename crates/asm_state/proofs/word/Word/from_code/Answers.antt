use Rattle.std.proofs.Common.{arith}
use Rattle.asm_state.specs.code.WordCodes.{same_code}
use Rattle.asm_state.proofs.word.Word.from_code.Goals as goal

pub returns-then-code-lt-END_OF_CODES-clause-value : goal.returns-then-code-lt-END_OF_CODES-clause-value
returns-then-code-lt-END_OF_CODES-clause-value c =
    same_code _ (record { positive = omega (arith, c.if-code-ge1.true); known = omega (arith, c.if-code-lt-END_OF_CODES.true) })
