-- Free. The tree of each variant of the program's rule codes.
use Rattle.std.proofs.Common.{◌≡◌, ◌∙◌, ℕ, map, Option, ap, sym, Box, Vec, Global}
use Rattle.std.specs.Prelude.{option_map}
use Rattle.std.specs.Arc.{arc_value}
use Rattle.asm_code.specs.code.CodeViews.{code_of, codes_of}
use Rattle.asm_code.specs.code.RuleTree as tree
use Rattle.asm_code.specs.code.RuleViews.{target_code_of, rule_of, rule_step, rules_of}
use Rattle.asm_code.specs.declared.code.Code.{Code}
use Rattle.asm_code.specs.declared.rule_code.TargetCode.{TargetCode}
use Rattle.asm_code.specs.declared.rule_code.RuleCode.{RuleCode}
use Rattle.asm_code.specs.declared.rule_code.RuleCode.TheOpen as opened_code
use Rattle.asm_code.specs.declared.rule_code.RuleCode.TheVariants as code
use Rattle.asm_code.specs.declared.rule_code.RuleCode.TheFolds.{fold-roll-RuleCode}

pub rule_laws-skip_form : (P : RuleCode) → P ≡ code.Skip → rule_of P ≡ tree.Skip
rule_laws-skip_form P is = ap rule_of is ∙ ap rule_of (sym code.rolls-Skip) ∙ fold-roll-RuleCode tree.RuleCode rule_step opened_code.Skip

pub rule_laws-assign_form : (P : RuleCode) (to : TargetCode) (t : Code) → P ≡ code.Assign to t → rule_of P ≡ tree.Assign (target_code_of to) (code_of t)
rule_laws-assign_form P to t is = ap rule_of is ∙ ap rule_of (sym (code.rolls-Assign to t)) ∙ fold-roll-RuleCode tree.RuleCode rule_step (opened_code.Assign to t)

pub rule_laws-par_form : (P : RuleCode) (Ps : Vec RuleCode Global) → P ≡ code.Par Ps → rule_of P ≡ tree.Par (rules_of (map rule_of Ps.items))
rule_laws-par_form P Ps is = ap rule_of is ∙ ap rule_of (sym (code.rolls-Par Ps)) ∙ fold-roll-RuleCode tree.RuleCode rule_step (opened_code.Par Ps)

pub rule_laws-seq_form : (P : RuleCode) (Ps : Vec RuleCode Global) → P ≡ code.Seq Ps → rule_of P ≡ tree.Seq (rules_of (map rule_of Ps.items))
rule_laws-seq_form P Ps is = ap rule_of is ∙ ap rule_of (sym (code.rolls-Seq Ps)) ∙ fold-roll-RuleCode tree.RuleCode rule_step (opened_code.Seq Ps)

pub rule_laws-if_form : (P : RuleCode) (c : Code) (Q R : Box RuleCode Global) → P ≡ code.If c Q R → rule_of P ≡ tree.If (code_of c) (rule_of Q.value) (rule_of R.value)
rule_laws-if_form P c Q R is = ap rule_of is ∙ ap rule_of (sym (code.rolls-If c Q R)) ∙ fold-roll-RuleCode tree.RuleCode rule_step (opened_code.If c Q R)

pub rule_laws-let_form : (P : RuleCode) (t : Code) (Q : Box RuleCode Global) → P ≡ code.Let t Q → rule_of P ≡ tree.Let (code_of t) (rule_of Q.value)
rule_laws-let_form P t Q is = ap rule_of is ∙ ap rule_of (sym (code.rolls-Let t Q)) ∙ fold-roll-RuleCode tree.RuleCode rule_step (opened_code.Let t Q)

pub rule_laws-forall_form : (P : RuleCode) (u : ℕ) (c : Option Code) (Q : Box RuleCode Global) → P ≡ code.Forall u c Q → rule_of P ≡ tree.Forall u (option_map code_of c) (rule_of Q.value)
rule_laws-forall_form P u c Q is = ap rule_of is ∙ ap rule_of (sym (code.rolls-Forall u c Q)) ∙ fold-roll-RuleCode tree.RuleCode rule_step (opened_code.Forall u c Q)

pub rule_laws-choose_form : (P : RuleCode) (u : ℕ) (c : Option Code) (Q R : Box RuleCode Global) → P ≡ code.Choose u c Q R → rule_of P ≡ tree.Choose u (option_map code_of c) (rule_of Q.value) (rule_of R.value)
rule_laws-choose_form P u c Q R is = ap rule_of is ∙ ap rule_of (sym (code.rolls-Choose u c Q R)) ∙ fold-roll-RuleCode tree.RuleCode rule_step (opened_code.Choose u c Q R)

pub rule_laws-iterate_form : (P : RuleCode) (Q : Box RuleCode Global) → P ≡ code.Iterate Q → rule_of P ≡ tree.Iterate (rule_of Q.value)
rule_laws-iterate_form P Q is = ap rule_of is ∙ ap rule_of (sym (code.rolls-Iterate Q)) ∙ fold-roll-RuleCode tree.RuleCode rule_step (opened_code.Iterate Q)

pub rule_laws-call_form : (P : RuleCode) (body : _) (to : Option TargetCode) (ts : Vec Code Global) → P ≡ code.Call body to ts
    → rule_of P ≡ tree.Call (rule_of (arc_value body)) (option_map target_code_of to) (codes_of (map code_of ts.items))
rule_laws-call_form P body to ts is = ap rule_of is ∙ ap rule_of (sym (code.rolls-Call body to ts)) ∙ fold-roll-RuleCode tree.RuleCode rule_step (opened_code.Call body to ts)
