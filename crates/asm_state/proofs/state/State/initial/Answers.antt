use Rattle.std.proofs.Common.{sym, ap, subst, ◌∙◌}
use Rattle.asm_state.specs.code.Contents.{IsStateOf}
use Rattle.asm_state.specs.Signature.{state_of}
use Rattle.asm_state.proofs.StatesByNumbers.{state_laws}
use Rattle.asm_state.proofs.state.State.initial.Goals as goal

pub returns-clause-initial : goal.returns-clause-initial
returns-clause-initial c =
    ap (state_of c.args.signature.now) (c.in_ok-contents.ensures.items_if_clones_equal (λ x y h. h) ∙ c.initial.ensures.contents) ∙ state_laws.initial c.args.signature.now

pub returns-clause-state : goal.returns-clause-state
returns-clause-state c =
    subst (IsStateOf c.args.signature.now) (sym (c.in_ok-contents.ensures.items_if_clones_equal (λ x y h. h) ∙ c.initial.ensures.contents))
    (state_laws.initial_is_state c.args.signature.now c.initial.ensures.sound)
