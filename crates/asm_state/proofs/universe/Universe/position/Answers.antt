use Rattle.std.proofs.Common.{◌-◌, ◌≤◌, arith}
use Rattle.asm_state.proofs.UniverseValues.{position_within, position_outside}
use Rattle.asm_state.proofs.universe.Universe.position.Goals as goal
use Rattle.asm_state.proofs.universe.Universe.position.Goals.{else-first-code-via-then-first-code+else-code-first, else-first-code-via-else-first-code}

pub returns-then-code-first : goal.returns-then-code-first
returns-then-code-first c = record {
  position = position_within c.args.value c.self.invariant c.self.view_is c.code-first.ensures c.code-code.ensures.code c.if-first-code.true c.if-code-first.true;
  few = omega (arith, c.if-code-first.true, c.self.invariant.few);
}

pub returns-else-first-code : goal.returns-else-first-code
returns-else-first-code c =
    let outside : c.code-first.result ≤ c.code-code.result → c.self.inside.count ≤ c.code-code.result - c.code-first.result = elim c.else-first-code.branch [
      | else-first-code-via-then-first-code+else-code-first w ↦ λ from. w.if-code-first.false
      | else-first-code-via-else-first-code w ↦ λ from. absurd (omega arith)
    ] in
    record { position = position_outside c.args.value c.self.invariant c.self.view_is c.code-first.ensures c.code-code.ensures.code outside; few = tt }
