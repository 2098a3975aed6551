use Rattle.std.proofs.Common.{arith}
use Rattle.asm_explore.proofs.StateLemmas.FreeSlots.{all_taken}
use Rattle.asm_explore.proofs.states.lookup.free_slot.Goals as goal

-- it never comes round
pub returns : goal.returns
returns c =
    let full = all_taken c.args.tags.now c.args.hash (λ k low. c.loop-taken.invariant.taken k (omega (arith, low, c.loop-taken-test.false))) in
    absurd (omega (arith, full, c.requires))
