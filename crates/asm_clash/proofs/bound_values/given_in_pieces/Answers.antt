use Rattle.std.proofs.Common.{◌≡◌, ◌∙◌, List, subst}
use Rattle.std.specs.Prelude.{IfOk}
use Rattle.asm_state.specs.declared.value.Value.{Value}
use Rattle.asm_clash.specs.code.StandingRules.{optional_arguments_at}
use Rattle.asm_clash.proofs.ClosedRules.{given_called, given_elsewhere}
use Rattle.asm_clash.proofs.bound_values.given_in_pieces.Goals as goal

pub returns-in-Call : goal.returns-in-Call
returns-in-Call c =
    let gs = c.args.given.now in
    let v = c.args.view.now in
    let f = c.args.frame.now in
    subst (λ (xs : List Value). IfOk c.arguments_of_target.result (λ values. values.items ≡ xs))
    (given_called gs (optional_arguments_at v f gs) c.args.rule.now c.in-Call.body c.in-Call.answer c.in-Call.arguments c.in-Call.is)
    c.arguments_of_target.ensures

pub returns-in_ok-own-in_default : goal.returns-in_ok-own-in_default
returns-in_ok-own-in_default c =
    let gs = c.args.given.now in
    let v = c.args.view.now in
    let f = c.args.frame.now in
    c.in_ok-own-in_default.ensures.items ∙ given_elsewhere gs (optional_arguments_at v f gs) c.args.rule.now c.in_default.not-Call
