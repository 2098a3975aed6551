use Rattle.std.proofs.Common.{sym, arith}
use Rattle.asm_state.proofs.Words.{same_from, bits_code, truth_code}
use Rattle.asm_state.proofs.word.Word.value.Goals as goal

pub returns-then-self-ge-FIRST_ELEMENT : goal.returns-then-self-ge-FIRST_ELEMENT
returns-then-self-ge-FIRST_ELEMENT c = same_from _ _ _ c.self.invariant c.self.view_is (omega (arith, c.if-self-ge-FIRST_ELEMENT.true))

pub returns-then-self-ge4 : goal.returns-then-self-ge4
returns-then-self-ge4 c = same_from _ _ _ c.self.invariant c.self.view_is (bits_code _ c.self.invariant)

pub returns-then-self-eq1 : goal.returns-then-self-eq1
returns-then-self-eq1 c = same_from _ _ _ c.self.invariant c.self.view_is (sym c.if-self-eq1.true)

pub returns-else-self-eq1 : goal.returns-else-self-eq1
returns-else-self-eq1 c = same_from _ _ _ c.self.invariant c.self.view_is (truth_code _ c.self.invariant.positive (omega (arith, c.if-self-ge4.false)) c.if-self-eq1.false)
