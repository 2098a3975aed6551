use Rattle.std.proofs.Common.{ℕ, List, length, slice_get, Some, ap, sym, subst, ◌<◌, ◌∙◌}
use Rattle.asm_state.specs.Signature.{Shape}
use Rattle.asm_syntax.specs.code.Views.{spec_of}
use Rattle.asm_check.proofs.UseLemmas.NumbersInTerms.{function_arity_is, function_in_range}
use Rattle.asm_check.proofs.uses.term_faults.function_arity.Goals as goal

pub function-requires : goal.function-requires
function-requires c =
    let checked = c.args.checked.now in
    subst (λ (s : Shape). c.args.f < length s.functions) (sym c.signature.ensures) (function_in_range (spec_of checked.spec) checked.well_formed c.args.f c.requires)

pub returns : goal.returns
returns c =
    let checked = c.args.checked.now in
    function_arity_is (spec_of checked.spec) checked.well_formed c.args.f c.function.result.now c.requires (ap (λ (s : Shape). slice_get s.functions c.args.f) (sym c.signature.ensures) ∙ c.function.ensures)
    ∙ ap (λ (xs : List ℕ). Some (length xs)) (sym c.as_slice.ensures)
