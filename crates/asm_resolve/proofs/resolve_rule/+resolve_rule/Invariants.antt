use Rattle.std.proofs.Common.{◌+◌, ◌*◌, take}
use Rattle.asm_syntax.specs.code.Views.{spec_of}
use Rattle.asm_syntax.specs.Tree as plain
use Rattle.asm_check.specs.Shapes.{shape_of}
use Rattle.asm_meaning.specs.Declarations.{program_of}
use Rattle.asm_meaning.specs.code.MeantTrees.{meant, meant_branch, meant_rules, meant_target, meant_terms}
use Rattle.asm_meaning.specs.code.TreeWeights.{in_body, rules_in, rules_in_all}
use Rattle.asm_resolve.specs.code.RuleScopes.{AreKnown}
use Rattle.asm_resolve.specs.code.Scopes.{slots_of}
use Rattle.asm_resolve.proofs.RuleResolving.{AllRulesResolved}
use Rattle.asm_resolve.proofs.resolve_rule.+resolve_rule.Given as goal

-- ---- that it ends: each goes by the rule that it resolves, with the bodies of the rules that it
-- calls written out

abbrev pub decreases-resolve_rule : goal.decreases-resolve_rule
decreases-resolve_rule l = 4 * rules_in (in_body l.checked.now) (meant l.rule.now) + 1

abbrev pub decreases-resolve_forall : goal.decreases-resolve_forall
decreases-resolve_forall l = 4 * rules_in (in_body l.checked.now) (meant l.body.now) + 3

abbrev pub decreases-resolve_choose : goal.decreases-resolve_choose
decreases-resolve_choose l = 4 * (rules_in (in_body l.checked.now) (meant l.body.now) + rules_in (in_body l.checked.now) (meant_branch l.none.now)) + 3

abbrev pub decreases-resolve_while : goal.decreases-resolve_while
decreases-resolve_while l = 4 * rules_in (in_body l.checked.now) (meant l.body.now) + 3

abbrev pub decreases-resolve_boxed : goal.decreases-resolve_boxed
decreases-resolve_boxed l = 4 * rules_in (in_body l.checked.now) (meant l.rule.now) + 2

abbrev pub decreases-resolve_other : goal.decreases-resolve_other
decreases-resolve_other l = 4 * rules_in (in_body l.checked.now) (meant_branch l.rule.now) + 2

abbrev pub decreases-resolve_parts : goal.decreases-resolve_parts
decreases-resolve_parts l = 4 * rules_in_all (in_body l.checked.now) (meant_rules l.parts.now) + 3

abbrev pub decreases-resolve_call : goal.decreases-resolve_call
decreases-resolve_call l = 4 * rules_in (in_body l.checked.now) (plain.Call (meant_target l.target.now) l.name.now.text (meant_terms l.arguments.now))

abbrev pub decreases-resolve_rule_body : goal.decreases-resolve_rule_body
decreases-resolve_rule_body l = 4 * in_body l.checked.now l.name.now.text + 2

-- the parts so far
abbrev pub invariant-resolve_parts-loop-i : goal.invariant-resolve_parts-loop-i
invariant-resolve_parts-loop-i l = record {
  codes : AllRulesResolved (program_of (spec_of l.checked.spec)) (shape_of (spec_of l.checked.spec)) (slots_of l.scope) (take l.i l.parts) l.codes.items;
  known : AreKnown (spec_of l.checked.spec) l.known;
}
