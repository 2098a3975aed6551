use Rattle.std.proofs.Common.{arith}
use Rattle.asm_eval.proofs.SoundMembers.{member_laws-par as par_sound, member_laws-seq as seq_sound}
use Rattle.asm_run.proofs.work_budget.+budget_after_rule.Goals as goal

pub budget_after_rule-requires : goal.budget_after_rule-requires
budget_after_rule-requires t c =
    let items = c.deref-part-items in
    let item = c.part-item in
    let at = par_sound c.args.signature.now c.args.rule.now c.requires c.in-Par.parts c.in-Par.is items.result.now items.ensures.value c.loop-part.part-index item.result c.loop-part-test.true item.is in
    (omega (arith, c.decreases, at.0), at.1)

pub budget_after_rule-requires-in-loop-part-2 : goal.budget_after_rule-requires-in-loop-part-2
budget_after_rule-requires-in-loop-part-2 t c =
    let items = c.deref-part-items-in-Seq in
    let item = c.part-item-in-loop-part-2 in
    let at = seq_sound c.args.signature.now c.args.rule.now c.requires c.in-Seq.parts c.in-Seq.is items.result.now items.ensures.value c.loop-part-2.part-index item.result c.loop-part-2-test.true item.is in
    (omega (arith, c.decreases, at.0), at.1)
