use Rattle.std.proofs.Common.{sym, take}
use Rattle.asm_eval.proofs.CodeCandidates.{all_pass_none}
use Rattle.asm_eval.proofs.choose.keep_passing.Goals as goal

pub returns-in-None-clause-kept : goal.returns-in-None-clause-kept
returns-in-None-clause-kept c =
    let a = c.args in
    sym (all_pass_none a.view.now a.frame.now a.test.now (take a.count a.elements.now) c.in-None.is)
