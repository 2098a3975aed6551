-- Bridge to the code. Rules in which nothing is chosen.
--     ChoosesNothing P      there is no `choose` in a rule, nor in those that it calls
--     ChooseNothing Ps      in none of some rules
use Rattle.asm_code.specs.code.RuleTree.{RuleCode, Skip, Assign, Par, Seq, If, Let, Forall, Choose, Iterate, Call, RuleCodes, no_rules, rule_then}

abbrev mutual
  pub ChoosesNothing : RuleCode → Type 0
  ChoosesNothing Skip = Unit {0}
  ChoosesNothing (Assign to t) = Unit {0}
  ChoosesNothing (Par Ps) = ChooseNothing Ps
  ChoosesNothing (Seq Ps) = ChooseNothing Ps
  ChoosesNothing (If c P Q) = ChoosesNothing P × ChoosesNothing Q
  ChoosesNothing (Let t P) = ChoosesNothing P
  ChoosesNothing (Forall u c P) = ChoosesNothing P
  ChoosesNothing (Choose u c P Q) = ⊥
  ChoosesNothing (Iterate P) = ChoosesNothing P
  ChoosesNothing (Call P to ts) = ChoosesNothing P

  pub ChooseNothing : RuleCodes → Type 0
  ChooseNothing no_rules = Unit {0}
  ChooseNothing (rule_then P Ps) = ChoosesNothing P × ChooseNothing Ps
