use Rattle.std.proofs.Common.{◌∙◌, ◌++◌, ap}
use Rattle.asm_clash.specs.code.StandingRules.{bound_in}
use Rattle.asm_clash.proofs.FrameValues.{bound_here}
use Rattle.asm_clash.proofs.bound_values.values_bound.Goals as goal

pub returns : goal.returns
returns c =
    let v = c.args.view.now in
    let f = c.args.frame.now in
    c.in_ok-push_bound.ensures ∙ ap (λ ws. ws ++ bound_in v f) c.new-values.ensures.items ∙ bound_here v f
