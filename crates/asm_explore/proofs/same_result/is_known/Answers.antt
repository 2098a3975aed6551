use Rattle.std.proofs.Common.{arith}
use Rattle.asm_explore.specs.code.OutcomeLists.{IsShownBy}
use Rattle.asm_explore.proofs.OutcomeLemmas.ListLemmas.{any_at}
use Rattle.asm_explore.proofs.same_result.is_known.Goals as goal

pub returns-then-is_same_result : goal.returns-then-is_same_result
returns-then-is_same_result c = λ yes.
    any_at (λ f. IsShownBy c.args.one.now.answer f.answer) c.args.found.now c.loop-depth.at c.index-found-at.result (omega (arith, c.if-at-found.false)) c.index-found-at.is
    (c.is_same_result.ensures c.if-is_same_result.true)
