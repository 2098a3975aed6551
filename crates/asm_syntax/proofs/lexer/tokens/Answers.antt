use Rattle.std.proofs.Common.{◌∙◌, arith, false-eqb}
use Rattle.asm_syntax.specs.declared.error.LexError.TheVariants as fault
use Rattle.asm_syntax.proofs.Steps.{start_of, filler_to, token_to, bad_number, open_comment, bad_byte, asks_behind_token}
use Rattle.asm_syntax.proofs.OneLexResult.{fault_accepts_nothing}
use Rattle.asm_syntax.proofs.lexer.tokens.Goals as goal
use Rattle.asm_syntax.proofs.lexer.tokens.Goals.{in-Filler, in-Token+in_ok-push-in-Token}

pub loop-rest-init : goal.loop-rest-init
loop-rest-init c = start_of c.args.text.now _ c.new-tokens.ensures.items

pub loop-rest-preserved : goal.loop-rest-preserved
loop-rest-preserved c =
    elim c.match-front_of.branch [
      | in-Filler w ↦ filler_to c.args.text.now _ _ _ c.loop-rest.rest.now _ _ (λ i. (w.tokens-is i).items) w.length-is c.loop-rest.invariant (omega (arith, false-eqb _ 0 c.loop-rest-test.ensures)) w.in-Filler.ensures
      | in-Token+in_ok-push-in-Token w ↦ token_to c.args.text.now _ _ _ c.loop-rest.rest.now _ _ _ ((λ i. (w.tokens-is i).items) ∙ w.in_ok-push-in-Token.ensures.items) w.length-is c.loop-rest.invariant (omega (arith, false-eqb _ 0 c.loop-rest-test.ensures)) w.in-Token.ensures
    ]

pub returns-in-BadNumber-clause-refused : goal.returns-in-BadNumber-clause-refused
returns-in-BadNumber-clause-refused c = bad_number c.args.text.now _ _ c.loop-rest.rest.now c.loop-rest.invariant c.if-text-gt-MAX_LENGTH.false (omega (arith, false-eqb _ 0 c.loop-rest-test.ensures)) c.in-BadNumber.ensures

pub returns-in-BadNumber-clause-accepted : goal.returns-in-BadNumber-clause-accepted
returns-in-BadNumber-clause-accepted c = fault_accepts_nothing _ c.args.text.now (fault.BadNumber c.loop-rest.at) (bad_number c.args.text.now _ _ c.loop-rest.rest.now c.loop-rest.invariant c.if-text-gt-MAX_LENGTH.false (omega (arith, false-eqb _ 0 c.loop-rest-test.ensures)) c.in-BadNumber.ensures)

pub returns-in-OpenComment-clause-accepted : goal.returns-in-OpenComment-clause-accepted
returns-in-OpenComment-clause-accepted c = fault_accepts_nothing _ c.args.text.now (fault.OpenComment c.loop-rest.at) (open_comment c.args.text.now _ _ c.loop-rest.rest.now c.loop-rest.invariant c.if-text-gt-MAX_LENGTH.false (omega (arith, false-eqb _ 0 c.loop-rest-test.ensures)) c.in-OpenComment.ensures)

pub returns-in-BadByte-clause-accepted : goal.returns-in-BadByte-clause-accepted
returns-in-BadByte-clause-accepted c = fault_accepts_nothing _ c.args.text.now (fault.BadByte c.loop-rest.at) (bad_byte c.args.text.now _ _ c.loop-rest.rest.now c.loop-rest.invariant c.if-text-gt-MAX_LENGTH.false (omega (arith, false-eqb _ 0 c.loop-rest-test.ensures)) c.in-BadByte.ensures)

pub returns-in_err-push-in-Token-clause-memory : goal.returns-in_err-push-in-Token-clause-memory
returns-in_err-push-in-Token-clause-memory c = asks_behind_token c.from_residual.result c.args.text.now _ _ c.loop-rest.rest.now _ _ c.if-text-gt-MAX_LENGTH.false c.loop-rest.invariant (omega (arith, false-eqb _ 0 c.loop-rest-test.ensures)) c.in-Token.ensures
