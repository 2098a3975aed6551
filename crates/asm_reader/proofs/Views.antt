-- Free. The source trees of the code's variants.
use Rattle.std.proofs.Common.{◌≡◌, Option, Some, None, Box, Global, ap, sym, ◌∙◌}
use Rattle.asm_syntax.specs.SourceTree as source
use Rattle.asm_syntax.specs.code.Views.{name_of, term_of, test_of, rule_step, rule_of}
use Rattle.asm_syntax.specs.declared.name.Name.{Name}
use Rattle.asm_syntax.specs.declared.term.Term.{Term}
use Rattle.asm_syntax.specs.declared.rule.Rule.{Rule}
use Rattle.asm_syntax.specs.declared.rule.Rule.TheOpen as open_rule
use Rattle.asm_syntax.specs.declared.rule.Rule.TheVariants as rule
use Rattle.asm_syntax.specs.declared.rule.Rule.TheFolds.{fold-roll-Rule}
use Rattle.asm_reader.specs.RuleGrammar.{branch}
use Rattle.asm_reader.specs.code.ViewsOfParts.{boxed_rule_of}

pub skip_is : rule_of rule.Skip ≡ source.Skip
skip_is = ap rule_of (sym rule.rolls-Skip) ∙ fold-roll-Rule source.Rule rule_step open_rule.Skip

pub if_is : (t : Term) (P : Box Rule Global) (Q : Option (Box Rule Global)) → rule_of (rule.If t P Q) ≡ source.If (term_of t) (rule_of P.value) (branch (boxed_rule_of Q))
if_is t P None = ap rule_of (sym (rule.rolls-If t P None)) ∙ fold-roll-Rule source.Rule rule_step (open_rule.If t P None)
if_is t P (Some Q) = ap rule_of (sym (rule.rolls-If t P (Some Q))) ∙ fold-roll-Rule source.Rule rule_step (open_rule.If t P (Some Q))

pub choose_is : (x over : Name) (c : Option Term) (P : Box Rule Global) (Q : Option (Box Rule Global)) → rule_of (rule.Choose x over c P Q) ≡ source.Choose (name_of x) (name_of over) (test_of c) (rule_of P.value) (branch (boxed_rule_of Q))
choose_is x over c P None = ap rule_of (sym (rule.rolls-Choose x over c P None)) ∙ fold-roll-Rule source.Rule rule_step (open_rule.Choose x over c P None)
choose_is x over c P (Some Q) = ap rule_of (sym (rule.rolls-Choose x over c P (Some Q))) ∙ fold-roll-Rule source.Rule rule_step (open_rule.Choose x over c P (Some Q))
