-- Bridge to the code. The trees that the program's rule codes stand for.
use Rattle.std.specs.Prelude.{List, [], ◌∷◌, map, option_map}
use Rattle.std.specs.Arc.{arc_value}
use Rattle.asm_code.specs.code.CodeViews.{code_of, codes_of}
use Rattle.asm_code.specs.code.RuleTree as tree
use Rattle.asm_code.specs.declared.rule_code.TargetCode.{TargetCode}
use Rattle.asm_code.specs.declared.rule_code.TargetCode.TheVariants as place
use Rattle.asm_code.specs.declared.rule_code.RuleCode.{RuleCode}
use Rattle.asm_code.specs.declared.rule_code.RuleCode.TheOpen.{RuleCode-F}
use Rattle.asm_code.specs.declared.rule_code.RuleCode.TheOpen as code
use Rattle.asm_code.specs.declared.rule_code.RuleCode.TheFolds.{fold-RuleCode}

abbrev pub rules_of : List tree.RuleCode → tree.RuleCodes
rules_of [] = tree.no_rules
rules_of (P ∷ Ps) = tree.rule_then P (rules_of Ps)

abbrev pub target_code_of : TargetCode → tree.Place
target_code_of (place.ResultAt i) = tree.Answer i
target_code_of (place.Cell n) = tree.Cell n
target_code_of (place.Row first over t) = tree.Row first over.low over.count (code_of t.value)
target_code_of (place.Grid at s t) = tree.Grid at.first at.rows.low at.rows.count at.columns.low at.columns.count (code_of s.value) (code_of t.value)
target_code_of (place.FunctionAt f ts) = tree.Held f (codes_of (map code_of ts.items))

abbrev pub rule_step : RuleCode-F tree.RuleCode → tree.RuleCode
rule_step code.Skip = tree.Skip
rule_step (code.Assign to t) = tree.Assign (target_code_of to) (code_of t)
rule_step (code.Par Ps) = tree.Par (rules_of Ps.items)
rule_step (code.Seq Ps) = tree.Seq (rules_of Ps.items)
rule_step (code.If c P Q) = tree.If (code_of c) P.value Q.value
rule_step (code.Let t P) = tree.Let (code_of t) P.value
rule_step (code.Forall u c P) = tree.Forall u (option_map code_of c) P.value
rule_step (code.Choose u c P Q) = tree.Choose u (option_map code_of c) P.value Q.value
rule_step (code.Iterate P) = tree.Iterate P.value
rule_step (code.Call body to ts) = tree.Call (arc_value body) (option_map target_code_of to) (codes_of (map code_of ts.items))

abbrev pub rule_of : RuleCode → tree.RuleCode
rule_of = fold-RuleCode tree.RuleCode rule_step
