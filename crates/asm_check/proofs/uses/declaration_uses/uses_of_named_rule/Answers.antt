use Rattle.std.proofs.Common.{ap, ◌∙◌, map, ◌++◌}
use Rattle.asm_syntax.specs.code.Views.{name_of, rule_of}
use Rattle.asm_check.specs.Names.{rule_scope, uses_of_rule}
use Rattle.asm_check.specs.code.uses.UseViews.{use_of}
use Rattle.asm_check.specs.code.uses.UseCollector.{bound_of}
use Rattle.asm_check.proofs.UseLemmas.Scopes.{same_rule}
use Rattle.asm_check.proofs.uses.declaration_uses.uses_of_named_rule.Goals as goal

pub returns : goal.returns
returns c =
    let scope = c.in_ok-collector.collector in
    let nothing = ap (λ us. map use_of us ++ uses_of_rule (rule_of c.args.body.now) (bound_of scope)) c.in_ok-collector.ensures.found in
    c.in_ok-rule.ensures.found ∙ nothing ∙ same_rule (rule_of c.args.body.now) (bound_of scope) (rule_scope (map name_of c.args.parameters.now)) c.in_ok-collector.ensures.bound
