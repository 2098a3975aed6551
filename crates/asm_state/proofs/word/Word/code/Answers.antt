use Rattle.std.proofs.Common.{sym, arith}
use Rattle.asm_state.proofs.Words.{code_from}
use Rattle.asm_state.proofs.word.Word.code.Goals as goal

pub returns : goal.returns
returns c = record {
  code = sym (code_from _ _ c.self.invariant c.self.view_is);
  positive = c.self.invariant.positive;
  small = omega (arith, c.self.invariant.known);
}
