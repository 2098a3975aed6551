use Rattle.std.proofs.Common.{◌≡◌, List, Ok, ap, subst, sym}
use Rattle.std.specs.Prelude.{IfOk, Result}
use Rattle.asm_state.specs.Signature.{state_of}
use Rattle.asm_state.specs.declared.value.Value.{Value}
use Rattle.asm_meaning.specs.Run.{IsStep}
use Rattle.asm_random.specs.code.ResolvedRuns.{IsDead, shape_in, specification_in}
use Rattle.asm_random.proofs.stepping.step_from.Goals as goal

ok : {X E : Type 0} (r : Result X E) (x : X) (P : X → Type 0) → r ≡ Ok x → IfOk r P → P x
ok r x P is h = subst (λ it. IfOk it P) is h

pub returns-then-branch-clause-step : goal.returns-then-branch-clause-step
returns-then-branch-clause-step g c =
    let m = c.args.specified.now in
    let shape = shape_in m in
    let old = c.args.at.now.state in
    let new = c.in-Ok.state in
    let script = g.P.Picks.script c.args.choices.now.script.now in
    let step = ok c.in_ok-state.field-0 new (λ (next : List Value). IsStep (specification_in m) m.turns script c.args.choices.now.step (state_of shape old) (state_of shape next))
    c.in-Ok.is c.in_ok-state.ensures.leads in
    let stays = c.in_ok-began_in_deadlock.ensures.stays c.if-branch.true in
    let same : state_of shape new ≡ state_of shape old = ap (state_of shape) (sym (c.is_same_state-stays.ensures.same stays)) in
    let dead = c.in_ok-began_in_deadlock.ensures.so c.if-branch.true in
    record { kept = tt; leads = tt; wrong = (state_of shape new, step, same, subst (IsDead m) (sym same) dead) }
