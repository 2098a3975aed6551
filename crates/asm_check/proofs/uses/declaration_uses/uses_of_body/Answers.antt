use Rattle.std.proofs.Common.{ap, ◌∙◌, map, ◌++◌}
use Rattle.asm_syntax.specs.code.Views.{name_of, term_of}
use Rattle.asm_check.specs.Names.{text_of, uses_of_term}
use Rattle.asm_check.specs.code.uses.UseViews.{use_of}
use Rattle.asm_check.specs.code.uses.UseCollector.{bound_of}
use Rattle.asm_check.proofs.UseLemmas.Scopes.{same_term}
use Rattle.asm_check.proofs.uses.declaration_uses.uses_of_body.Goals as goal

pub returns : goal.returns
returns c =
    let scope = c.in_ok-collector.collector in
    let nothing = ap (λ us. map use_of us ++ uses_of_term (term_of c.args.body.now) (bound_of scope)) c.in_ok-collector.ensures.found in
    c.in_ok-term.ensures.found ∙ nothing ∙ same_term (term_of c.args.body.now) (bound_of scope) (map text_of (map name_of c.args.parameters.now)) c.in_ok-collector.ensures.bound
