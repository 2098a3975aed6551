use Rattle.std.proofs.Common.{◌≡◌}
use Rattle.asm_state.specs.declared.value.Value.{Value as value}
use Rattle.asm_eval.specs.code.ShownStates.{content_below}
use Rattle.asm_eval.proofs.below.Below.content.Given as goal

abbrev pub invariant-loop-rest : goal.invariant-loop-rest
invariant-loop-rest l = (v : value) → content_below l.rest l.n v ≡ content_below l.self l.n v
