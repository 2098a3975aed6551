use Rattle.std.proofs.Common.{map, Some, sym, ap, ◌∙◌}
use Rattle.asm_state.specs.Signature.{domain_of}
use Rattle.asm_state.specs.Tables.{location_in}
use Rattle.asm_eval.specs.code.ShownViews.{shown}
use Rattle.asm_code.specs.code.RuleViews.{target_code_of}
use Rattle.asm_eval.specs.code.Frames.{code_value, readings_of}
use Rattle.asm_eval.specs.code.Evaluation.{target_in}
use Rattle.asm_eval.proofs.Members.{readings_map}
use Rattle.asm_eval.proofs.target.target_number.Goals as goal

pub returns-in_ok-n-in-FunctionAt-clause-location : goal.returns-in_ok-n-in-FunctionAt-clause-location
returns-in_ok-n-in-FunctionAt-clause-location c =
    let a = c.args in
    let shape = a.view.now.signature.now in
    let f = c.in-FunctionAt.function in
    ap Some (c.in_ok-n-in-FunctionAt.ensures.location
    ∙ ap (λ ts. location_in f (domain_of shape f) (map (code_value a.view.now a.frame.now) ts)) c.as_slice.ensures.value
    ∙ ap (location_in f (domain_of shape f)) (sym (readings_map shape (readings_of shape a.frame.now) (shown a.view.now) c.in-FunctionAt.arguments.items)))
    ∙ sym (ap (λ to. target_in a.view.now a.frame.now (target_code_of to)) c.in-FunctionAt.is)
