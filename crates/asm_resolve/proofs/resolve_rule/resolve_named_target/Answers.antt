use Rattle.std.proofs.Common.{sym, ◌∙◌}
use Rattle.asm_syntax.specs.code.Views.{spec_of}
use Rattle.asm_meaning.specs.code.MeantTrees.{meant_terms}
use Rattle.asm_resolve.specs.code.Scopes.{slots_of}
use Rattle.asm_resolve.proofs.RuleResolving.{answer_resolved, nowhere_resolved}
use Rattle.asm_resolve.proofs.resolve_rule.resolve_named_target.Goals as goal

pub returns-in-Some-clause-resolved : goal.returns-in-Some-clause-resolved
returns-in-Some-clause-resolved c =
    let a = c.args in
    answer_resolved (spec_of a.checked.now.spec) a.checked.now.well_formed (slots_of a.scope.now) a.name.now.text (meant_terms a.arguments.now) c.in-Some.i (sym c.in_ok-i.ensures ∙ c.in-Some.is)

pub returns-in_default-controlled-clause-resolved : goal.returns-in_default-controlled-clause-resolved
returns-in_default-controlled-clause-resolved c =
    let a = c.args in
    nowhere_resolved (spec_of a.checked.now.spec) a.checked.now.well_formed (slots_of a.scope.now) a.name.now.text (meant_terms a.arguments.now) (sym c.in_ok-i.ensures ∙ c.in_default.is) c.in_default-controlled.ensures.none

pub resolve_located-requires : goal.resolve_located-requires
resolve_located-requires c = record {
  known = c.requires.known;
  free = sym c.in_ok-i.ensures ∙ c.in_default.is;
  stands = c.in-Some-controlled.ensures.some;
  kind = c.in-Some-controlled.ensures.kind;
}
