-- Bridge to the code. The source tree of each variant, as the code matches on it.
use Rattle.std.proofs.Common.{◌≡◌, map, Option, Box, Vec, Global, ap, ◌∙◌, sym}
use Rattle.asm_state.specs.declared.operation.Op.{Op}
use Rattle.asm_syntax.specs.SourceTree as source
use Rattle.asm_syntax.specs.code.Views.{name_of, term_step, term_of, terms_of, links_of, rule_step, rule_of, rules_of, target_of, test_of}
use Rattle.asm_syntax.specs.declared.term.Literal.{Literal}
use Rattle.asm_syntax.specs.declared.name.Name.{Name}
use Rattle.asm_syntax.specs.declared.term.Term.{Term}
use Rattle.asm_syntax.specs.declared.term.Term.TheOpen as open_term
use Rattle.asm_syntax.specs.declared.term.Term.TheVariants as term
use Rattle.asm_syntax.specs.declared.term.Term.TheFolds.{fold-roll-Term}
use Rattle.asm_syntax.specs.declared.rule.Rule.{Rule}
use Rattle.asm_syntax.specs.declared.rule.Target.{Target}
use Rattle.asm_syntax.specs.declared.rule.Rule.TheOpen as open_rule
use Rattle.asm_syntax.specs.declared.rule.Rule.TheVariants as rule
use Rattle.asm_syntax.specs.declared.rule.Rule.TheFolds.{fold-roll-Rule}

pub term_of-Constant : (l : Literal) → term_of (term.Constant l) ≡ source.Constant l
term_of-Constant l = ap term_of (sym (term.rolls-Constant l)) ∙ fold-roll-Term source.Term term_step (open_term.Constant l)

pub term_of-Not : (t : Box Term Global) → term_of (term.Not t) ≡ source.Not (term_of t.value)
term_of-Not t = ap term_of (sym (term.rolls-Not t)) ∙ fold-roll-Term source.Term term_step (open_term.Not t)

pub term_of-Negative : (t : Box Term Global) → term_of (term.Negative t) ≡ source.Negative (term_of t.value)
term_of-Negative t = ap term_of (sym (term.rolls-Negative t)) ∙ fold-roll-Term source.Term term_step (open_term.Negative t)

pub term_of-Named : (name : Name) (ts : Vec Term Global) → term_of (term.Named name ts) ≡ source.Named (name_of name) (terms_of (map term_of ts.items))
term_of-Named name ts = ap term_of (sym (term.rolls-Named name ts)) ∙ fold-roll-Term source.Term term_step (open_term.Named name ts)

pub term_of-Exists : (name : Name) (over : Name) (t : Box Term Global) → term_of (term.Exists name over t) ≡ source.Exists (name_of name) (name_of over) (term_of t.value)
term_of-Exists name over t = ap term_of (sym (term.rolls-Exists name over t)) ∙ fold-roll-Term source.Term term_step (open_term.Exists name over t)

pub term_of-Every : (name : Name) (over : Name) (t : Box Term Global) → term_of (term.Every name over t) ≡ source.Every (name_of name) (name_of over) (term_of t.value)
term_of-Every name over t = ap term_of (sym (term.rolls-Every name over t)) ∙ fold-roll-Term source.Term term_step (open_term.Every name over t)

pub term_of-Chain : (t : Box Term Global) (links : Vec (Op × Term) Global) → term_of (term.Chain t links) ≡ source.Chain (term_of t.value) (links_of (map (λ l. (l.0, term_of l.1)) links.items))
term_of-Chain t links = ap term_of (sym (term.rolls-Chain t links)) ∙ fold-roll-Term source.Term term_step (open_term.Chain t links)

pub term_of-Result : (name : Name) → term_of (term.Result name) ≡ source.Result (name_of name)
term_of-Result name = ap term_of (sym (term.rolls-Result name)) ∙ fold-roll-Term source.Term term_step (open_term.Result name)

-- ---- rules

pub rule_of-Skip : rule_of rule.Skip ≡ source.Skip
rule_of-Skip = ap rule_of (sym rule.rolls-Skip) ∙ fold-roll-Rule source.Rule rule_step open_rule.Skip

pub rule_of-Assign : (name : Name) (ts : Vec Term Global) (t : Term) → rule_of (rule.Assign name ts t) ≡ source.Assign (name_of name) (terms_of (map term_of ts.items)) (term_of t)
rule_of-Assign name ts t = ap rule_of (sym (rule.rolls-Assign name ts t)) ∙ fold-roll-Rule source.Rule rule_step (open_rule.Assign name ts t)

pub rule_of-Call : (to : Option Target) (name : Name) (ts : Vec Term Global) → rule_of (rule.Call to name ts) ≡ source.Call (target_of to) (name_of name) (terms_of (map term_of ts.items))
rule_of-Call to name ts = ap rule_of (sym (rule.rolls-Call to name ts)) ∙ fold-roll-Rule source.Rule rule_step (open_rule.Call to name ts)

pub rule_of-Par : (Ps : Vec Rule Global) → rule_of (rule.Par Ps) ≡ source.Par (rules_of (map rule_of Ps.items))
rule_of-Par Ps = ap rule_of (sym (rule.rolls-Par Ps)) ∙ fold-roll-Rule source.Rule rule_step (open_rule.Par Ps)

pub rule_of-Seq : (Ps : Vec Rule Global) → rule_of (rule.Seq Ps) ≡ source.Seq (rules_of (map rule_of Ps.items))
rule_of-Seq Ps = ap rule_of (sym (rule.rolls-Seq Ps)) ∙ fold-roll-Rule source.Rule rule_step (open_rule.Seq Ps)

pub rule_of-Let : (name : Name) (t : Term) (P : Box Rule Global) → rule_of (rule.Let name t P) ≡ source.Let (name_of name) (term_of t) (rule_of P.value)
rule_of-Let name t P = ap rule_of (sym (rule.rolls-Let name t P)) ∙ fold-roll-Rule source.Rule rule_step (open_rule.Let name t P)

pub rule_of-Forall : (name : Name) (over : Name) (c : Option Term) (P : Box Rule Global) → rule_of (rule.Forall name over c P) ≡ source.Forall (name_of name) (name_of over) (test_of c) (rule_of P.value)
rule_of-Forall name over c P = ap rule_of (sym (rule.rolls-Forall name over c P)) ∙ fold-roll-Rule source.Rule rule_step (open_rule.Forall name over c P)

pub rule_of-Iterate : (P : Box Rule Global) → rule_of (rule.Iterate P) ≡ source.Iterate (rule_of P.value)
rule_of-Iterate P = ap rule_of (sym (rule.rolls-Iterate P)) ∙ fold-roll-Rule source.Rule rule_step (open_rule.Iterate P)

pub rule_of-While : (c : Term) (P : Box Rule Global) → rule_of (rule.While c P) ≡ source.While (term_of c) (rule_of P.value)
rule_of-While c P = ap rule_of (sym (rule.rolls-While c P)) ∙ fold-roll-Rule source.Rule rule_step (open_rule.While c P)

pub rule_of-SetResult : (name : Name) (t : Term) → rule_of (rule.SetResult name t) ≡ source.SetResult (name_of name) (term_of t)
rule_of-SetResult name t = ap rule_of (sym (rule.rolls-SetResult name t)) ∙ fold-roll-Rule source.Rule rule_step (open_rule.SetResult name t)
