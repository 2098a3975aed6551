use Rattle.std.proofs.Common.{◌≤◌, List, length}
use Rattle.std.specs.List.{AllWithin}
use Rattle.asm_state.specs.declared.value.Value.{Value}
use Rattle.asm_state.specs.Universe.{IsUniverse}
use Rattle.asm_state.proofs.layout.check_universes.Given as goal

abbrev pub invariant-loop-universe : goal.invariant-loop-universe
invariant-loop-universe l = AllWithin IsUniverse l.universes 0 l.universe-index × AllWithin (λ (vs : List Value). length vs ≤ 4096) l.universes 0 l.universe-index
