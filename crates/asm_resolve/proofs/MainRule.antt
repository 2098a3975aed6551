-- Free. The rule that a specification starts with.
use Rattle.std.proofs.Common.{◌≡◌, ℕ, [], ◌∷◌, List, Some, Result, sym, ap, subst, ◌∙◌, IfOk}
use Rattle.std.specs.declared.alloc.AllocError.{AllocError}
use Rattle.asm_syntax.specs.PlainTree.{plain_rule}
use Rattle.asm_syntax.specs.SourceTree as source
use Rattle.asm_syntax.specs.SourceTree.{Spec}
use Rattle.asm_syntax.specs.Tree as plain
use Rattle.asm_check.specs.Faults.{inits}
use Rattle.asm_check.specs.Names.{NamedRule}
use Rattle.asm_check.specs.Numbers.{rules_of, declared_with_number, named}
use Rattle.asm_check.specs.declared.checked.NameNumber.TheVariants as number
use Rattle.asm_meaning.specs.Declarations.{body_of, numbered, rule_body, main_rule}
use Rattle.asm_meaning.proofs.MeantDeclarations.{program_declares}
use Rattle.asm_code.specs.code.RuleViews.{rule_of}
use Rattle.asm_code.specs.declared.rule_code.RuleCode.{RuleCode}
use Rattle.asm_resolve.specs.code.RuleScopes.{resolved_rule_in}

pub main_is : (s : Spec) (x : source.Name) (r : ℕ) (xs : List source.Name) (P : source.Rule) → inits s ≡ x ∷ [] → named s x.text ≡ Some (number.Rule r)
    → declared_with_number (rules_of s) r ≡ Some (NamedRule xs P) → plain_rule P ≡ main_rule s (inits s)
main_is s x r xs P one called is =
    sym (ap (main_rule s) one ∙ ap rule_body (program_declares s x.text) ∙ ap (λ it. rule_body (numbered s it)) called ∙ ap (λ m. rule_body (body_of m)) is)

pub main_resolved : (s : Spec) (r : Result RuleCode AllocError) (P : plain.Rule) → P ≡ main_rule s (inits s) → IfOk r (λ c. resolved_rule_in s [] P (rule_of c))
    → IfOk r (λ c. resolved_rule_in s [] (main_rule s (inits s)) (rule_of c))
main_resolved s r P is it = subst (λ P. IfOk r (λ c. resolved_rule_in s [] P (rule_of c))) is it
