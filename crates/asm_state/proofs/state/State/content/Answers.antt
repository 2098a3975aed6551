use Rattle.std.proofs.Common.{◌<◌, length, get_or, sym, ap, subst, ◌∙◌, arith}
use Rattle.std.proofs.lemmas.List.{get_or_default}
use Rattle.asm_state.specs.declared.value.Value.TheVariants.{Undef}
use Rattle.asm_state.proofs.StatesByNumbers.{state_laws}
use Rattle.asm_state.proofs.state.State.content.Goals as goal

pub returns-clause-location : goal.returns-clause-location
returns-clause-location c = λ shape state.
    let inside : c.args.n < length c.self.inside.contents.items = subst (λ vs. c.args.n < length vs) (sym c.self.view_is) c.requires in
    c.index.ensures
    ∙ get_or_default c.self.inside.contents.items c.args.n c.index.result.now Undef inside
    ∙ ap (λ vs. get_or vs c.args.n Undef) c.self.view_is
    ∙ state_laws.content_at shape c.args.self.now c.args.n state (omega (arith, c.requires, state.whole))
