use Rattle.std.proofs.Common.{◌≡◌, subst}
use Rattle.asm_state.specs.Signature.{Shape, initial_state, state_of}
use Rattle.asm_random.proofs.position.Position.first.Goals as goal

pub returns-clause-initial : goal.returns-clause-initial
returns-clause-initial c = subst (λ (sh : Shape). state_of sh c.in_ok-state.state ≡ initial_state sh) c.signature.ensures c.in_ok-state.ensures.initial
