use Rattle.std.proofs.Common.{arith}
use Rattle.asm_eval.proofs.SoundMembers.{member_laws-chain as operand_sound, member_laws-derived as value_sound, member_laws-held as argument_sound}
use Rattle.asm_run.proofs.work_budget.+budget_after_term.Goals as goal

pub budget_after_term-requires-in-loop-argument : goal.budget_after_term-requires-in-loop-argument
budget_after_term-requires-in-loop-argument t c =
    let items = c.deref-argument-items in
    let item = c.argument-item in
    let at = argument_sound c.args.signature.now c.args.term.now c.requires c.in-FunctionAt.function c.in-FunctionAt.arguments c.in-FunctionAt.is items.result.now items.ensures.value c.loop-argument.argument-index item.result c.loop-argument-test.true item.is in
    (omega (arith, c.decreases, at.0), at.1)

pub budget_after_term-requires-in-loop-operand : goal.budget_after_term-requires-in-loop-operand
budget_after_term-requires-in-loop-operand t c =
    let items = c.deref-operand-items in
    let item = c.loop-operand-item in
    let at = operand_sound c.args.signature.now c.args.term.now c.requires c.in-Chain.first c.in-Chain.rest c.in-Chain.is items.result.now items.ensures.value c.loop-operand.operand-index item.result c.loop-operand-test.true item.is in
    (omega (arith, c.decreases, at.0), at.1)

pub budget_after_term-requires-in-loop-argument-2 : goal.budget_after_term-requires-in-loop-argument-2
budget_after_term-requires-in-loop-argument-2 t c =
    let items = c.deref-argument-items-in-Derived in
    let item = c.argument-item-in-loop-argument-2 in
    let at = value_sound c.args.signature.now c.args.term.now c.requires c.in-Derived.body c.in-Derived.arguments c.in-Derived.is items.result.now items.ensures.value c.loop-argument-2.argument-index item.result c.loop-argument-2-test.true item.is in
    (omega (arith, c.decreases, at.0), at.1)
