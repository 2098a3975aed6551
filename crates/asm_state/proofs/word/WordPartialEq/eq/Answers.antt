use Rattle.std.proofs.Common.{sym, ◌∙◌, nat_eq}
use Rattle.asm_state.proofs.Words.{code_from}
use Rattle.asm_state.proofs.word.WordPartialEq.eq.Goals as goal

pub returns : goal.returns
returns c =
    c.eq.ensures
    ∙ λ i. nat_eq (sym (code_from _ _ c.t1-1.invariant c.t1-1.view_is) i) (sym (code_from _ _ c.t2-1.invariant c.t2-1.view_is) i)
