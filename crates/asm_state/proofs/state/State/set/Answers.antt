use Rattle.std.proofs.Common.{◌≡◌, set, sym, subst, arith}
use Rattle.asm_state.specs.code.Contents.{IsStateOf}
use Rattle.asm_state.specs.Location.{changed}
use Rattle.asm_state.specs.Signature.{state_of, location_at}
use Rattle.asm_state.proofs.StatesByNumbers.{state_laws}
use Rattle.asm_state.proofs.state.State.set.Goals as goal

pub returns-clause-changed : goal.returns-clause-changed
returns-clause-changed c = λ shape state proper.
    subst (λ vs. state_of shape (set vs c.args.n c.args.value) ≡ changed (state_of shape c.args.self.now) (location_at shape c.args.n) c.args.value) (sym c.self.view_is)
    (state_laws.set shape c.args.self.now c.args.n c.args.value state.sound state.whole (omega (arith, c.requires, state.whole)) proper)

pub returns-clause-state : goal.returns-clause-state
returns-clause-state c = λ shape state proper.
    subst (λ vs. IsStateOf shape (set vs c.args.n c.args.value)) (sym c.self.view_is)
    (state_laws.set_is_state shape c.args.self.now c.args.n c.args.value state (omega (arith, c.requires, state.whole)) proper)
