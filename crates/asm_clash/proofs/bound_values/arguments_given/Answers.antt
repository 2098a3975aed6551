use Rattle.std.proofs.Common.{◌∙◌, ◌++◌, map, ap, sym}
use Rattle.asm_code.specs.code.RuleViews.{target_code_of}
use Rattle.asm_code.specs.declared.rule_code.TargetCode.{TargetCode}
use Rattle.asm_eval.specs.code.Frames.{code_value}
use Rattle.asm_clash.specs.code.StandingRules.{arguments_at}
use Rattle.asm_clash.proofs.FrameValues.{values_here}
use Rattle.asm_clash.proofs.bound_values.arguments_given.Goals as goal

pub returns-in_ok-push_values-in-FunctionAt : goal.returns-in_ok-push_values-in-FunctionAt
returns-in_ok-push_values-in-FunctionAt c =
    let v = c.args.view.now in
    let f = c.args.frame.now in
    let terms = c.as_slice.result.now in
    c.in_ok-push_values-in-FunctionAt.ensures
    ∙ ap (λ ws. ws ++ map (code_value v f) terms) c.new-values.ensures.items
    ∙ ap (λ ts. map (code_value v f) ts) c.as_slice.ensures.value
    ∙ values_here v f c.in-FunctionAt.arguments.items
    ∙ ap (λ (p : TargetCode). arguments_at v f c.args.given.now (target_code_of p)) (sym c.in-FunctionAt.is)
