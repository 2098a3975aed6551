use Rattle.std.proofs.Common.{◌<◌, ◌∙◌, sym, subst}
use Rattle.std.specs.Prelude.{length}
use Rattle.asm_state.specs.Signature.{Shape}
use Rattle.asm_syntax.specs.code.Views.{spec_of}
use Rattle.asm_explore_because.proofs.elements.universe_of.Goals as goal

pub universe-requires : goal.universe-requires
universe-requires c =
    let s = spec_of c.args.checked.now.spec in
    subst (λ (sh : Shape). c.in-Some.n < length sh.universes) (sym c.signature.ensures)
    (c.universe_names.ensures.in_range s c.named_text.result c.in-Some.n c.args.checked.now.well_formed c.named_text.ensures.in_range (sym c.universe_in.ensures ∙ c.in-Some.is))
