use Rattle.std.proofs.Common.{arith}
use Rattle.asm_eval.proofs.SoundMembers.{member_laws-seq as seq_sound}
use Rattle.asm_run.proofs.work_budget.+budget_after_regions.Goals as goal

pub budget_after_regions-requires : goal.budget_after_regions-requires
budget_after_regions-requires t c =
    let items = c.deref-part-items in
    let item = c.part-item in
    let at = seq_sound c.args.signature.now c.args.rule.now c.requires c.in-Seq.parts c.in-Seq.is items.result.now items.ensures.value c.loop-part.part-index item.result c.loop-part-test.true item.is in
    (omega (arith, c.decreases, at.0), at.1)
