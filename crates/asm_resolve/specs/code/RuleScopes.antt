-- Bridge to the code. What the pass keeps of rules.
--     rule_resolved checked scope R c         c stands for a rule of the code in a specification
--     other_resolved, parts_resolved, test_resolved, named_target_resolved, target_resolved
--                                             the same of its parts
--     assign_resolved, call_resolved, forall_resolved, choose_resolved, while_resolved
--                                             the same of a rule of this kind, by its parts
--     IsRuleBody spec r answers n c           c stands for the body of the rule numbered r for
--                                             a call that binds n parameters, and has a target or
--                                             none
--     AreRuleBodies spec bodies               a place for each rule, with some of its bodies
--     AreKnown spec known                     what is resolved so far
use Rattle.std.specs.Prelude.{◌≡◌, ℕ, Bool, List, map, take, length, slice_get, Option, Some, None, All, option_map}
use Rattle.std.specs.Arc.{arc_value}
use Rattle.std.proofs.Common.{Box, Vec, Global}
use Rattle.asm_syntax.specs.SourceTree.{Spec}
use Rattle.asm_syntax.specs.Tree as plain
use Rattle.asm_syntax.specs.Tree.{Name, Rule as Plain, Assign, Call}
use Rattle.asm_syntax.specs.code.Views.{spec_of}
use Rattle.asm_syntax.specs.declared.rule.Rule.{Rule}
use Rattle.asm_syntax.specs.declared.rule.Target.{Target}
use Rattle.asm_syntax.specs.declared.term.Term.{Term}
use Rattle.asm_check.specs.Numbers as numbers
use Rattle.asm_check.specs.Shapes.{shape_of}
use Rattle.asm_check.specs.declared.checked.Checked.{Checked}
use Rattle.asm_check.specs.declared.checked.NameNumber.TheVariants as number
use Rattle.asm_meaning.specs.Declarations.{numbered, program_of}
use Rattle.asm_meaning.specs.code.MeantTrees.{meant, meant_branch, meant_rules, meant_target, meant_term, meant_terms}
use Rattle.asm_meaning.specs.Program.{NamedRule}
use Rattle.asm_meaning.specs.code.TermValues.{condition}
use Rattle.asm_code.specs.code.CodeViews.{code_of}
use Rattle.asm_code.specs.code.RuleTree as tree
use Rattle.asm_code.specs.code.RuleViews.{target_code_of, rule_of, rules_of}
use Rattle.asm_code.specs.declared.code.Code.{Code}
use Rattle.asm_code.specs.declared.rule_code.TargetCode.{TargetCode}
use Rattle.asm_code.specs.declared.rule_code.RuleCode.{RuleCode}
use Rattle.asm_resolve.specs.code.ResolvedRules.{IsResolvedRule, AreResolvedRules, IsResolvedTarget, IsResolvedTest}
use Rattle.asm_resolve.specs.code.Scopes.{AreResolvedBodies, slots_of}
use Rattle.asm_resolve.specs.code.Slots.{Slot, called_slots}
use Rattle.asm_resolve.specs.declared.bodies.Bodies.{Bodies}
use Rattle.asm_resolve.specs.declared.bodies.RuleBody.{RuleBody}
use Rattle.asm_resolve.specs.declared.scope.Scope.{Scope}

module _ (spec : Spec) where
  abbrev pub resolved_rule_in : List Slot → Plain → tree.RuleCode → Type 0
  resolved_rule_in = IsResolvedRule (program_of spec) (shape_of spec)

  abbrev pub resolved_named_target_in : List Slot → Name → plain.Terms → Option tree.Place → Type 0
  resolved_named_target_in = IsResolvedTarget (program_of spec) (shape_of spec)

  -- if a call has no target, its result goes nowhere
  abbrev pub resolved_target_in : List Slot → Option (Name × plain.Terms) → Option tree.Place → Type 0
  resolved_target_in slots None to = to ≡ None
  resolved_target_in slots (Some (f, ts)) to = resolved_named_target_in slots f ts to

  pub record IsRuleBody (r : ℕ) (answers : Bool) (bound : ℕ) (c : tree.RuleCode) : Type 0 where
    pub parameters : List Name
    pub body : Plain
    pub stands : numbered spec (Some (number.Rule r)) ≡ Some (NamedRule parameters body)
    pub resolved : resolved_rule_in (called_slots answers (take bound parameters)) body c

  pub record AreRuleBodies (bodies : List (Vec RuleBody Global)) : Type 0 where
    pub as_many : length bodies ≡ length (numbers.rules_of spec)
    pub each : (r : ℕ) (those : Vec RuleBody Global) → slice_get bodies r ≡ Some those → All (λ (b : RuleBody). IsRuleBody r b.answers b.bound (rule_of (arc_value b.code))) those.items

  abbrev pub AreKnown : Bodies → Type 0
  AreKnown known = AreResolvedBodies spec known.terms.items × AreRuleBodies known.rules.items

module _ (checked : Checked) (s : Scope) where
  abbrev pub rule_resolved : Rule → RuleCode → Type 0
  rule_resolved R c = resolved_rule_in (spec_of checked.spec) (slots_of s) (meant R) (rule_of c)

  abbrev pub other_resolved : Option (Box Rule Global) → RuleCode → Type 0
  other_resolved R c = resolved_rule_in (spec_of checked.spec) (slots_of s) (meant_branch R) (rule_of c)

  abbrev pub parts_resolved : List Rule → List RuleCode → Type 0
  parts_resolved Ps cs = AreResolvedRules (program_of (spec_of checked.spec)) (shape_of (spec_of checked.spec)) (slots_of s) (meant_rules Ps) (rules_of (map rule_of cs))

  abbrev pub test_resolved : Option Term → Option Code → Type 0
  test_resolved t c = IsResolvedTest (program_of (spec_of checked.spec)) (shape_of (spec_of checked.spec)) (slots_of s) (condition t) (option_map code_of c)

  abbrev pub named_target_resolved : Name → List Term → Option TargetCode → Type 0
  named_target_resolved x ts to = resolved_named_target_in (spec_of checked.spec) (slots_of s) x (meant_terms ts) (option_map target_code_of to)

  abbrev pub target_resolved : Option Target → Option TargetCode → Type 0
  target_resolved target to = resolved_target_in (spec_of checked.spec) (slots_of s) (meant_target target) (option_map target_code_of to)

  abbrev pub assign_resolved : Name → List Term → Term → RuleCode → Type 0
  assign_resolved x ts t c = resolved_rule_in (spec_of checked.spec) (slots_of s) (Assign x (meant_terms ts) (meant_term t)) (rule_of c)

  abbrev pub call_resolved : Option Target → Name → List Term → RuleCode → Type 0
  call_resolved target f ts c = resolved_rule_in (spec_of checked.spec) (slots_of s) (Call (meant_target target) f (meant_terms ts)) (rule_of c)

  abbrev pub forall_resolved : Name → Name → Option Term → Rule → RuleCode → Type 0
  forall_resolved x u t R c = resolved_rule_in (spec_of checked.spec) (slots_of s) (plain.Forall x u (condition t) (meant R)) (rule_of c)

  abbrev pub choose_resolved : Name → Name → Option Term → Rule → Option (Box Rule Global) → RuleCode → Type 0
  choose_resolved x u t R Q c = resolved_rule_in (spec_of checked.spec) (slots_of s) (plain.Choose x u (condition t) (meant R) (meant_branch Q)) (rule_of c)

  abbrev pub while_resolved : Term → Rule → RuleCode → Type 0
  while_resolved t R c = resolved_rule_in (spec_of checked.spec) (slots_of s) (plain.Iterate (plain.If (meant_term t) (meant R) plain.Skip)) (rule_of c)
