use Rattle.std.proofs.Common.{◌≡◌, ◌<◌, length}
use Rattle.asm_explore.proofs.states.lookup.is_there.Given as goal

abbrev pub invariant-loop : goal.invariant-loop
invariant-loop l = (l.at < length l.tags) × (length l.slots ≡ length l.tags)
