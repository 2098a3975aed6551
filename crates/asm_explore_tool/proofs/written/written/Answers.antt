use Rattle.asm_explore_tool.proofs.OutputBytes.{on_err, whole_is_begun}
use Rattle.asm_explore_tool.proofs.written.written.Goals as goal

pub returns-clause-begun : goal.returns-clause-begun
returns-clause-begun g c = on_err c.finish.result _ (whole_is_begun _ _ _ c.args.text.now c.in_ok-write_whole.ensures.whole c.finish.ensures.kept)
