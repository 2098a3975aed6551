-- Free. If a piece has a span of a resolved rule, the rule is a `forall`.
use Rattle.std.proofs.Common.{◌≡◌, ◌∙◌, ℕ, Option, Box, Global, sym, subst}
use Rattle.asm_state.specs.Signature.{Shape}
use Rattle.asm_eval.specs.declared.part.Part.TheVariants as part
use Rattle.asm_code.specs.code.RuleTree as tree
use Rattle.asm_code.specs.code.RuleViews.{rule_of, rule_step}
use Rattle.asm_code.specs.declared.code.Code.{Code}
use Rattle.asm_code.specs.declared.rule_code.RuleCode.{RuleCode, roll-out-RuleCode}
use Rattle.asm_code.specs.declared.rule_code.RuleCode.TheOpen.{RuleCode-F}
use Rattle.asm_code.specs.declared.rule_code.RuleCode.TheOpen as opened_code
use Rattle.asm_code.specs.declared.rule_code.RuleCode.TheViews.{roll-RuleCode, out-RuleCode}
use Rattle.asm_code.specs.declared.rule_code.RuleCode.TheVariants as code
use Rattle.asm_code.specs.declared.rule_code.RuleCode.TheFolds.{fold-roll-RuleCode}
use Rattle.asm_eval.specs.code.Pieces.{IsPartOf}

module _ (shape : Shape) (from to : ℕ) (R : RuleCode) (is : IsPartOf shape (rule_of R) (part.Span from to)) where
  abbrev IsSpanned : tree.RuleCode → Type 0
  IsSpanned S = IsPartOf shape S (part.Span from to)

  by_layer : (L : RuleCode-F RuleCode) (S : tree.RuleCode) → rule_of (roll-RuleCode L) ≡ S → R ≡ roll-RuleCode L → IsSpanned S
  by_layer L S form e = subst IsSpanned form (subst (λ (T : RuleCode). IsSpanned (rule_of T)) e is)

  at_layer : ((u : ℕ) (c : Option Code) (P : Box RuleCode Global) → R ≡ code.Forall u c P → ⊥) → (L : RuleCode-F RuleCode) → R ≡ roll-RuleCode L → ⊥
  at_layer other opened_code.Skip e = by_layer opened_code.Skip _ (fold-roll-RuleCode tree.RuleCode rule_step opened_code.Skip) e
  at_layer other (opened_code.Assign to' t) e = by_layer (opened_code.Assign to' t) _ (fold-roll-RuleCode tree.RuleCode rule_step (opened_code.Assign to' t)) e
  at_layer other (opened_code.Par Ps) e = by_layer (opened_code.Par Ps) _ (fold-roll-RuleCode tree.RuleCode rule_step (opened_code.Par Ps)) e
  at_layer other (opened_code.Seq Ps) e = by_layer (opened_code.Seq Ps) _ (fold-roll-RuleCode tree.RuleCode rule_step (opened_code.Seq Ps)) e
  at_layer other (opened_code.If c P Q) e = by_layer (opened_code.If c P Q) _ (fold-roll-RuleCode tree.RuleCode rule_step (opened_code.If c P Q)) e
  at_layer other (opened_code.Let t P) e = by_layer (opened_code.Let t P) _ (fold-roll-RuleCode tree.RuleCode rule_step (opened_code.Let t P)) e
  at_layer other (opened_code.Forall u c P) e = other u c P (e ∙ code.rolls-Forall u c P)
  at_layer other (opened_code.Choose u c P Q) e = by_layer (opened_code.Choose u c P Q) _ (fold-roll-RuleCode tree.RuleCode rule_step (opened_code.Choose u c P Q)) e
  at_layer other (opened_code.Iterate P) e = by_layer (opened_code.Iterate P) _ (fold-roll-RuleCode tree.RuleCode rule_step (opened_code.Iterate P)) e
  at_layer other (opened_code.Call body to' ts) e = by_layer (opened_code.Call body to' ts) _ (fold-roll-RuleCode tree.RuleCode rule_step (opened_code.Call body to' ts)) e

  pub only_forall : ((u : ℕ) (c : Option Code) (P : Box RuleCode Global) → R ≡ code.Forall u c P → ⊥) → ⊥
  only_forall other = at_layer other (out-RuleCode R) (sym (roll-out-RuleCode R))
